-- Document 02, order 9: edition 2 of the choice, by buckets, and which choice goes by which edition. Gains are worked out afresh from the sides. Assumes nothing.
use Rattle.std.specs.Prelude.{ℕ, zero, suc, ◌*◌, Bool, not, cond, ◌&&◌, List, [], ◌∷◌, eqb, ℤ}
use Rattle.std.proofs.Math.Option.{Option, none, some}
use Rattle.std.specs.Int.Signed.{lt_z}
use Rattle.rules.specs.Lists.{those, diff}
use Rattle.rules.specs.Job.{Job, file_count, recipe_count, files, recipes}
use Rattle.rules.specs.Split.{on_side, gain, is_free}
use Rattle.rules.specs.Move.{State, start, moved, steps_by, legal, dist_after, better, moves_by, Change, changes_of}
use Rattle.rules.specs.Pass.{tries}

-- ---- the buckets

-- a state, and its free files in one list, the latest entered first: each bucket is a part of that list, in its order
pub record Buckets : Type 0 where
  pub state : State
  pub entered : List ℕ

-- f leaves its bucket
abbrev pub without : List ℕ → ℕ → List ℕ
without fs f = those (λ g. not (eqb g f)) fs

-- f enters at the front, wherever it was
abbrev pub to_front : List ℕ → ℕ → List ℕ
to_front fs f = f ∷ without fs f

-- free files enter at the front in rising number
unfoldable pub entered_first : Job → List ℕ
entered_first job = steps_by to_front [] (those (is_free job) (files job))

abbrev pub start_buckets : Job → List ℕ → Buckets
start_buckets job sides = record { state = start job sides; entered = entered_first job }

-- a file changed by a scan enters the front of its new bucket
abbrev pub reenters : List ℕ → Change → List ℕ
reenters fs c = to_front fs c.file

-- the move of f: it leaves, and then the files that its scans change enter, scan by scan, pins in order; one changed twice enters twice
unfoldable pub moved_on : Job → Buckets → ℕ → Buckets
moved_on job b f = record {
  state = moved b.state f;
  entered = steps_by reenters (without b.entered f) (changes_of (recipes job) b.state f);
}

-- ---- the front of a vault

-- neither is greater
abbrev pub equal : ℤ → ℤ → Bool
equal x y = not (lt_z x y) && not (lt_z y x)

abbrev pub gain_in : Job → Buckets → ℕ → ℤ
gain_in job b f = gain b.state.sides (recipes job) f

abbrev pub in_vault : Buckets → ℕ → ℕ → Bool
in_vault b u f = on_side b.state.sides u f

-- the bucket of vault u and gain g, its front file first
abbrev pub bucket : Job → Buckets → ℕ → ℤ → List ℕ
bucket job b u g = those (λ f. in_vault b u f && equal (gain_in job b f) g) b.entered

-- the front file of a bucket; where that is empty, what is found below it
abbrev pub front_or : List ℕ → Option ℕ → Option ℕ
front_or [] below = below
front_or (f ∷ fs) below = some f

-- the front file of the highest nonempty one of n buckets, whose gains rise from minus p
unfoldable pub front_below : (ℤ → List ℕ) → ℕ → ℕ → Option ℕ
front_below buckets p zero = none
front_below buckets p (suc n) = front_or (buckets (diff n p)) (front_below buckets p n)

-- that of vault u: its gains lie from minus N to plus N
unfoldable pub front_of : Job → Buckets → ℕ → Option ℕ
front_of job b u = front_below (bucket job b u) (recipe_count job) (suc (2 * recipe_count job))

-- ---- the choice

abbrev pub unless_rejected : (ℕ → Bool) → Option ℕ → Option ℕ
unless_rejected ok none = none
unless_rejected ok (some f) = cond (ok f) (some f) none

-- only its front file is considered, and rejected if its move is not legal: no other file is looked at
abbrev pub offer : Job → Buckets → ℕ → Option ℕ
offer job b u = unless_rejected (legal job b.state) (front_of job b u)

-- of two the one from A, unless the other goes before it
abbrev pub of_two : (ℕ → ℕ → Bool) → Option ℕ → Option ℕ → Option ℕ
of_two goes none from_b = from_b
of_two goes (some f) none = some f
of_two goes (some f) (some g) = cond (goes g f) (some g) (some f)

-- of two offers the greater gain, then the less distance, then the one from A; none if neither vault has one
unfoldable pub choose_front : Job → Buckets → Option ℕ
choose_front job b = of_two (better (gain_in job b) (dist_after job b.state)) (offer job b 0) (offer job b 1)

-- the moves of a pass: it stops if neither qualifies. A file moves once, so C turns are enough
unfoldable pub front_tries : Job → List ℕ → List ℕ
front_tries job sides = moves_by (choose_front job) (moved_on job) (file_count job) (start_buckets job sides)

-- ---- the moves by edition

-- those that a pass from these sides tries: document 01's, but for edition 2
abbrev pub tries_by : ℕ → Job → List ℕ → List ℕ
tries_by edition job sides = cond (eqb edition 2) (front_tries job sides) (tries job sides)
