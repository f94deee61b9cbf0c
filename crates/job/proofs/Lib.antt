pub mod Search
pub mod AddingUp
pub mod Walking
pub mod HoldsOf
pub mod OwnRecipe
pub mod Whole
pub mod Unique
