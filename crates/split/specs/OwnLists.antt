-- The lists of the balancing's own. Assumes nothing.
use Rattle.std.specs.Prelude.{◌≡◌, ℕ, ◌*◌, ◌≤◌}

-- by their lengths: a gain for each of c files, where they are within their most, and scan lists for the most recipes
pub record OwnLists (files recipes c gains listed kinds : ℕ) : Type 0 where
  pub each : c ≤ files → gains ≡ c
  pub room : (4 * recipes ≤ listed) × (4 * recipes ≤ kinds)
