-- The lengths of the lent lists, against those that document 01 asks. Assumes nothing.
use Rattle.std.specs.Prelude.{◌≡◌, ℕ, ◌-◌, ◌*◌, ◌≤◌, Bool, ◌&&◌, length, leb, eqb}
use Rattle.job.specs.declared.TheConstants.Job.{MOST_FILES, MOST_RECIPES, MOST_PINS}
use Rattle.job.specs.declared.book.Book.{Book}
use Rattle.tables.specs.declared.lent.ListLengths.{ListLengths}
use Rattle.rules.specs.Job.{scratch_numbers}

-- `fits`, from the edition, C, N, P and the lengths of the lent lists: of the gain list, the scratch, and the lists of moves and scans
abbrev pub fits_of : ℕ → ℕ → ℕ → ℕ → ℕ → ℕ → ListLengths → Bool
fits_of edition c n p gains scratch l =
    eqb gains c && leb c l.tried && leb c l.gained && leb c l.cuts && leb c l.ends && leb (4 * n) l.recipes && leb (4 * n) l.kinds
    && leb (scratch_numbers edition p c n) scratch

-- the word on the lists is right for a job within its limits
abbrev pub WordOn : ℕ → ℕ → ℕ → ℕ → ℕ → ℕ → Bool → Bool → Type 0
WordOn files recipes pins c n p word right = c ≤ files → n ≤ recipes → p ≤ pins → word ≡ right

-- so for the files and recipes of a call
abbrev pub WordFor : Book → ℕ → ℕ → ℕ → ListLengths → Bool → Type 0
WordFor book edition gains scratch l word =
    let c = length book.files.sizes.now in
    let n = length book.recipes.bounds.now - 1 in
    let p = length book.recipes.pins.now in
    WordOn MOST_FILES MOST_RECIPES MOST_PINS c n p word (fits_of edition c n p gains scratch l)
