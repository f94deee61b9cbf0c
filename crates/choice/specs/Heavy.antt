-- What the code of the balancing's choice does, on lists. Assumes nothing.
use Rattle.std.specs.Prelude.{ℕ, ◌*◌, Bool, cond, ◌&&◌, ◌||◌, List, length, get_or, take, leb, ltb, eqb, ℤ, pos}
use Rattle.std.proofs.Math.Option.{Option}
use Rattle.rules.specs.Split.{on_side}
use Rattle.rules.specs.Move.{distance, greater, first_below}
use Rattle.choice.specs.declared.window.Window.{Window}
use Rattle.choice.specs.Choosing.{fit_files, file_or}

-- the side to move from, by den·|A| and num·W: A is 0, B is 1, and 2 is none
abbrev pub heavy_in : Window → ℕ → ℕ
heavy_in w size = cond (leb (distance (w.den * size) w.aim) w.span) 2 (cond (ltb w.aim (w.den * size)) 0 1)

-- f is free, and on side u
abbrev pub free_in : ℕ → List ℕ → List ℕ → ℕ → Bool
free_in u sides locks f = eqb (get_or locks f 0) 0 && on_side sides u f

abbrev pub gain_in : List ℤ → ℕ → ℤ
gain_in gains f = get_or gains f (pos 0)

-- the leader so far, n where there is none yet, against f
unfoldable pub leader_in : ℕ → List ℕ → List ℕ → List ℤ → ℕ → ℕ → ℕ → ℕ
leader_in u sides locks gains n best f = cond (free_in u sides locks f && (eqb best n || greater (gain_in gains) f best)) f best

-- the free file of side u with the greatest gain listed, of those below n
unfoldable pub greatest_in : ℕ → List ℕ → List ℕ → List ℤ → ℕ → Option ℕ
greatest_in u sides locks gains n = first_below (free_in u sides locks) (greater (gain_in gains)) n

-- what is answered: the number of files where there is none, or where the lists do not fit
unfoldable pub greatest_file : ℕ → List ℕ → List ℕ → List ℤ → ℕ
greatest_file u sides scratch gains =
    cond (fit_files (length sides) (length scratch) (length gains))
    (file_or (length sides) (greatest_in u sides (take (length sides) scratch) gains (length sides))) (length sides)
