-- A pass of edition 2 worked by hand with the buckets after every move, and a job that settles though one legal move would lessen the cut (document 02, orders 9 and 10; FrontsWorked `worked`).
-- Assumes nothing.
use Rattle.std.specs.Prelude.{◌≡◌, ℕ, zero, suc, ◌*◌, true, List, [], ◌∷◌, ◌++◌, map, ℤ, pos, negsuc}
use Rattle.std.proofs.Math.Option.{Option, none, some}
use Rattle.rules.specs.Lists.{diff}
use Rattle.rules.specs.Job.{Job, as_job, limits_of, recipe_count, recipes}
use Rattle.rules.specs.Split.{cut}
use Rattle.rules.specs.Check.{done, check_job}
use Rattle.rules.specs.Move.{moved, legal, changes_of}
use Rattle.rules.specs.Pass.{pass_of, tries}
use Rattle.rules.specs.Fronts.{Buckets, bucket, offer, front_tries}
use Rattle.rules.specs.Run.{passes}
use Rattle.rules.specs.Marked.{begin, said}
use Rattle.rules.specs.FrontsHold.{buckets_at}

-- ---- the buckets as they are told

abbrev pub unless_empty : ℤ → List ℕ → List (ℤ × List ℕ)
unless_empty g [] = []
unless_empty g (f ∷ fs) = (g, f ∷ fs) ∷ []

-- those that are not empty, highest first, each with its gain; their gains rise from minus p
unfoldable pub filled : (ℤ → List ℕ) → ℕ → ℕ → List (ℤ × List ℕ)
filled buckets p zero = []
filled buckets p (suc n) = unless_empty (diff n p) (buckets (diff n p)) ++ filled buckets p n

abbrev pub buckets_of : Job → Buckets → ℕ → List (ℤ × List ℕ)
buckets_of job b u = filled (bucket job b u) (recipe_count job) (suc (2 * recipe_count job))

-- A's buckets, B's, and what each vault offers
abbrev pub told : Job → Buckets → List (ℤ × List ℕ) × List (ℤ × List ℕ) × Option ℕ × Option ℕ
told job b = (buckets_of job b 0, buckets_of job b 1, offer job b 0, offer job b 1)

-- ---- eight files

-- file 0 pinned; W is 14 and smax 2, so A may be 5 to 9, and starts at 6
-- recipes {2,0}, {5,3}, {7,1,5}, {0,5}, {4,7,3}, {0,7,6}
abbrev pub eight : Job
eight =
    as_job (3 ∷ 2 ∷ 2 ∷ 1 ∷ 2 ∷ 1 ∷ 2 ∷ 1 ∷ []) (0 ∷ 1 ∷ 1 ∷ 1 ∷ 0 ∷ 1 ∷ 1 ∷ 0 ∷ []) (1 ∷ 0 ∷ 0 ∷ 0 ∷ 0 ∷ 0 ∷ 0 ∷ 0 ∷ [])
    (0 ∷ 2 ∷ 4 ∷ 7 ∷ 9 ∷ 12 ∷ 15 ∷ []) (2 ∷ 0 ∷ 5 ∷ 3 ∷ 7 ∷ 1 ∷ 5 ∷ 0 ∷ 5 ∷ 4 ∷ 7 ∷ 3 ∷ 0 ∷ 7 ∷ 6 ∷ []) 1 2 0 1

abbrev pub eight_moves : List ℕ
eight_moves = 6 ∷ 7 ∷ 4 ∷ 2 ∷ 5 ∷ []

-- its buckets after the first k moves
abbrev pub eight_at : ℕ → Buckets
eight_at k = buckets_at eight eight.sides eight_moves k

-- ---- order 10's job: sizes 2, 3, 3, 1, files 1 and 2 pinned, ratio 3/7; W is 9 and smax 2, so A may be 2 to 5, and starts at 3
-- recipes {0,1}, {0,2}, {1,3}
abbrev pub early : Job
early = as_job (2 ∷ 3 ∷ 3 ∷ 1 ∷ []) (0 ∷ 1 ∷ 1 ∷ 0 ∷ []) (0 ∷ 1 ∷ 1 ∷ 0 ∷ []) (0 ∷ 2 ∷ 4 ∷ 6 ∷ []) (0 ∷ 1 ∷ 0 ∷ 2 ∷ 1 ∷ 3 ∷ []) 3 7 0 1

pub record FrontsWorked : Type 0 where
  pub checked : check_job (limits_of 8 6 15 2) eight ≡ done
  pub moves : front_tries eight eight.sides ≡ eight_moves
  -- files enter in rising number, so 6 stands before 2. The fronts 7 and 6 have gain 1; |A| would be 5 or 8, and 8 is nearer to 7: B's moves
  pub start : told eight (eight_at 0) ≡ ((pos 1, 7 ∷ []) ∷ (pos 0, 4 ∷ []) ∷ [], (pos 1, 6 ∷ 2 ∷ []) ∷ (pos 0, 5 ∷ 3 ∷ 1 ∷ []) ∷ [], some 7, some 6)
  -- 7 has lost 1 and stands before 4. B's front 2 would make |A| 10: it is rejected, and A's moves
  pub after6 : told eight (eight_at 1) ≡ ((pos 0, 7 ∷ 4 ∷ []) ∷ [], (pos 1, 2 ∷ []) ∷ (pos 0, 5 ∷ 3 ∷ 1 ∷ []) ∷ [], some 7, none)
  -- scans change 1 and 5, pins in order, then 3, then 4: each stands before those changed earlier. The fronts 4 and 2 have gain 1, and |A| would be 5 or 9, as near: A's moves
  pub after7 : told eight (eight_at 2) ≡ ((pos 1, 4 ∷ []) ∷ [], (pos 1, 2 ∷ []) ∷ (negsuc 0, 3 ∷ 5 ∷ 1 ∷ []) ∷ [], some 4, some 2)
  -- no file of A is free
  pub after4 : told eight (eight_at 3) ≡ ([], (pos 1, 2 ∷ []) ∷ (negsuc 0, 5 ∷ 1 ∷ []) ∷ (negsuc 1, 3 ∷ []) ∷ [], none, some 2)
  -- 5 entered after 1
  pub after2 : told eight (eight_at 4) ≡ ([], (negsuc 0, 5 ∷ 1 ∷ []) ∷ (negsuc 1, 3 ∷ []) ∷ [], none, some 5)
  -- 3 is changed twice, then 1
  pub twice : map (λ c. c.file) (changes_of (recipes eight) (eight_at 4).state 5) ≡ 3 ∷ 3 ∷ 1 ∷ []
  -- the front 1 would make |A| 10: the pass stops, though 3, the next of its bucket, is a legal move
  pub after5 : told eight (eight_at 5) ≡ ([], (pos 0, 1 ∷ 3 ∷ []) ∷ [], none, none)
  pub left : legal eight (eight_at 5).state 3 ≡ true
  -- moves, cuts after, scans, visits, kept: the cut falls from 5 to 2
  pub pass : said (pass_of eight eight.sides eight_moves) ≡ (eight_moves, 4 ∷ 4 ∷ 3 ∷ 2 ∷ 3 ∷ [], 11, 29, 4)
  -- 2 and 6 are alike in gain and distance: edition 1 begins with the lower
  pub first : tries eight eight.sides ≡ 2 ∷ 7 ∷ 4 ∷ 6 ∷ 5 ∷ 3 ∷ []
  -- by edition 2 order 10's job stops at once with cut 3, settled: A's front is 0, whose move would make |A| 1
  pub early·checked : check_job (limits_of 4 3 6 7) early ≡ done
  pub early·told : told early (buckets_at early early.sides [] 0) ≡ ((pos 2, 0 ∷ []) ∷ (pos 1, 3 ∷ []) ∷ [], [], none, none)
  pub early·passes : map said (passes early (front_tries early)) ≡ ([], [], 0, 0, 0) ∷ []
  pub early·cut : cut early.sides (recipes early) ≡ 3
  -- the move of file 3 is legal and leaves 2; edition 1 makes it
  pub early·legal : legal early (begin early) 3 ≡ true
  pub early·less : cut (moved (begin early) 3).sides (recipes early) ≡ 2
  pub early·first : tries early early.sides ≡ 3 ∷ []
