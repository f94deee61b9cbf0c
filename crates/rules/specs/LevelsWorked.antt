-- Source document 004's two figures by edition 3, ties that level 3 and no level decide, and a job that edition 1 leaves cut (document 02, order 12; LevelsWorked `worked`). Assumes nothing.
--
-- The text of the source has its words and not its drawings. Cells A and B, both to be moved to the other side, are files 0 and 1, in vault A; files 2 and 3 lie beside them. What a net has on the other side
-- is file 4, which is pinned: its numbers there are unlimited and take nothing, as the source's own vectors of figure 2 ask. File 5 is on no recipe
use Rattle.std.specs.Prelude.{◌≡◌, ℕ, true, false, List, [], ◌∷◌, map, take, ℤ, pos, negsuc}
use Rattle.std.proofs.Math.Option.{some}
use Rattle.rules.specs.Job.{Job, as_job, limits_of, files, recipes}
use Rattle.rules.specs.Split.{is_cut, gain}
use Rattle.rules.specs.Check.{done, check_job}
use Rattle.rules.specs.Move.{moved, after, choose}
use Rattle.rules.specs.Pass.{Pass, tries}
use Rattle.rules.specs.Run.{passes, run}
use Rattle.rules.specs.Levels.{vector, greater_vector, choose_vector, vector_tries, unscanned}
use Rattle.rules.specs.Marked.{small, chain, begin, said}
use Rattle.rules.specs.Unread.{torn}

-- files 0 to 3 in A, 4 (pinned) and 5 in B, all of size 1, ratio 1/2: A may be 2 to 4
abbrev pub pinned_beside : List ℕ → List ℕ → Job
pinned_beside bounds pins = as_job (1 ∷ 1 ∷ 1 ∷ 1 ∷ 1 ∷ 1 ∷ []) (0 ∷ 0 ∷ 0 ∷ 0 ∷ 1 ∷ 1 ∷ []) (0 ∷ 0 ∷ 0 ∷ 0 ∷ 1 ∷ 0 ∷ []) bounds pins 1 2 0 1

-- figure 1: N1 {0,4} and N2 {1,4}, which the move of A or of B takes out of the cut; N3 {0,2,3,4} of A and N4 {1,2,4} of B, which stay cut
abbrev pub figure1 : Job
figure1 = pinned_beside (0 ∷ 2 ∷ 4 ∷ 8 ∷ 11 ∷ []) (0 ∷ 4 ∷ 1 ∷ 4 ∷ 0 ∷ 2 ∷ 3 ∷ 4 ∷ 1 ∷ 2 ∷ 4 ∷ [])

-- figure 2: {0,4} of A, {1,2,4} and {1,3,4} of B
abbrev pub figure2 : Job
figure2 = pinned_beside (0 ∷ 2 ∷ 5 ∷ 8 ∷ []) (0 ∷ 4 ∷ 1 ∷ 2 ∷ 4 ∷ 1 ∷ 3 ∷ 4 ∷ [])

-- {0,4}, {1,4} and {1,2,3,4}
abbrev pub third : Job
third = pinned_beside (0 ∷ 2 ∷ 4 ∷ 8 ∷ []) (0 ∷ 4 ∷ 1 ∷ 4 ∷ 1 ∷ 2 ∷ 3 ∷ 4 ∷ [])

-- five files of size 1, sides B, B, A, A, A, none pinned: A may be 2 or 3. Recipes {0,4}, {2,4} and {0,2}; files 1 and 3 are on none
abbrev pub ring : Job
ring = small (1 ∷ 1 ∷ 0 ∷ 0 ∷ 0 ∷ []) (0 ∷ 2 ∷ 4 ∷ 6 ∷ []) (0 ∷ 4 ∷ 2 ∷ 4 ∷ 0 ∷ 2 ∷ [])

-- the vectors of files at the start
abbrev pub vectors_of : Job → List ℕ → List (List ℤ)
vectors_of job fs = map (vector job (begin job)) fs

-- the gains of files after a list of moves
abbrev pub gains_of : Job → List ℕ → List ℕ → List ℤ
gains_of job ms fs = map (gain (after (begin job) ms).sides (recipes job)) fs

-- the cut before and after a pass
abbrev pub cuts_of : Pass → ℕ × ℕ
cuts_of p = (p.cut_before, p.cut_after)

pub record LevelsWorked : Type 0 where
  -- "each of A and B will permit the deletion of one signal net", "the status of nets N3 and N4 will remain unchanged by either move"
  pub figure1·checked : check_job (limits_of 6 4 11 2) figure1 ≡ done
  pub figure1·moved :
      map (λ f. map (is_cut (moved (begin figure1) f).sides) (recipes figure1)) (0 ∷ 1 ∷ [])
      ≡ (false ∷ true ∷ true ∷ true ∷ []) ∷ (true ∷ false ∷ true ∷ true ∷ []) ∷ []
  -- "both said to have a gain of +1": edition 1 takes A, the lower number
  pub figure1·gains : gains_of figure1 [] (0 ∷ 1 ∷ []) ≡ pos 1 ∷ pos 1 ∷ []
  pub figure1·first : choose figure1 (begin figure1) ≡ some 0
  -- "B is probably a preferable choice": it leads at level 2, and edition 3 takes it
  pub figure1·vectors : vectors_of figure1 (0 ∷ 1 ∷ []) ≡ (pos 1 ∷ pos 0 ∷ pos 1 ∷ []) ∷ (pos 1 ∷ pos 1 ∷ pos 0 ∷ []) ∷ []
  pub figure1·third : choose_vector figure1 (begin figure1) ≡ some 1
  -- "it would then permit the deletion of yet another net (N4) through a subsequent move", that of file 2; after A no such move is there
  pub figure1·afterB : gains_of figure1 (1 ∷ []) (2 ∷ 3 ∷ []) ≡ pos 1 ∷ pos 0 ∷ []
  pub figure1·afterA : gains_of figure1 (0 ∷ []) (2 ∷ 3 ∷ []) ≡ pos 0 ∷ pos 0 ∷ []
  -- its passes: moves, cuts after, and then no scans and no visits; moves kept
  pub figure1·passes :
      map (λ p. said (unscanned p)) (passes figure1 (vector_tries figure1))
      ≡ (1 ∷ 0 ∷ 5 ∷ 2 ∷ [], 3 ∷ 2 ∷ 2 ∷ 1 ∷ [], 0, 0, 4) ∷ (0 ∷ 3 ∷ 2 ∷ 5 ∷ 1 ∷ [], 2 ∷ 2 ∷ 3 ∷ 3 ∷ 4 ∷ [], 0, 0, 0) ∷ []
  -- figure 2: "moving A would eliminate one net; moving B, however, would not eliminate any net, but would then allow for two nets to be eliminated"
  pub figure2·checked : check_job (limits_of 6 3 8 2) figure2 ≡ done
  pub figure2·gains : gains_of figure2 [] (0 ∷ 1 ∷ []) ≡ pos 1 ∷ pos 0 ∷ []
  pub figure2·afterB : gains_of figure2 (1 ∷ []) (2 ∷ 3 ∷ []) ≡ pos 1 ∷ pos 1 ∷ []
  -- "their second-order gain vectors would be ⟨1, 0⟩ and ⟨0, 2⟩"; the first is ordered above the second, and A is taken
  pub figure2·vectors : map (take 2) (vectors_of figure2 (0 ∷ 1 ∷ [])) ≡ (pos 1 ∷ pos 0 ∷ []) ∷ (pos 0 ∷ pos 2 ∷ []) ∷ []
  pub figure2·above : greater_vector (pos 1 ∷ pos 0 ∷ []) (pos 0 ∷ pos 2 ∷ []) ≡ true
  pub figure2·third : choose_vector figure2 (begin figure2) ≡ some 0
  -- equal at levels 1 and 2, level 3 decides
  pub third·checked : check_job (limits_of 6 3 8 2) third ≡ done
  pub third·vectors : vectors_of third (0 ∷ 1 ∷ []) ≡ (pos 1 ∷ pos 0 ∷ pos 0 ∷ []) ∷ (pos 1 ∷ pos 0 ∷ pos 1 ∷ []) ∷ []
  pub third·first : choose third (begin third) ≡ some 0
  pub third·third : choose_vector third (begin third) ≡ some 1
  -- document 01's chain: a recipe with one free file on either side adds 1 at level 1 and takes 1 at level 2. Files 1 and 2 are alike in vector and distance, and the lower moves
  pub chain·vectors : vectors_of chain (files chain) ≡ (pos 1 ∷ negsuc 0 ∷ pos 0 ∷ []) ∷ (pos 2 ∷ negsuc 1 ∷ pos 0 ∷ []) ∷ (pos 2 ∷ negsuc 1 ∷ pos 0 ∷ []) ∷ (pos 1 ∷ negsuc 0 ∷ pos 0 ∷ []) ∷ []
  pub chain·passes :
      map (λ p. said (unscanned p)) (passes chain (vector_tries chain))
      ≡ (1 ∷ 2 ∷ 0 ∷ 3 ∷ [], 1 ∷ 1 ∷ 2 ∷ 3 ∷ [], 0, 0, 1) ∷ (2 ∷ 1 ∷ 3 ∷ 0 ∷ [], 1 ∷ 1 ∷ 2 ∷ 1 ∷ [], 0, 0, 0) ∷ []
  -- after its first move file 1 is locked: {0,1} is unlimited on the own side of 0, {1,2} on that of 2
  pub chain·locked : map (vector chain (after (begin chain) (1 ∷ []))) (0 ∷ 2 ∷ 3 ∷ []) ≡ (negsuc 0 ∷ pos 0 ∷ pos 0 ∷ []) ∷ (pos 0 ∷ negsuc 0 ∷ pos 0 ∷ []) ∷ (pos 1 ∷ negsuc 0 ∷ pos 0 ∷ []) ∷ []
  -- order 5's job, of recipes {0,1,2}, {2,3} and {0,1,3} with file 2 unread: {2,3} counts in no level, nor does file 2 in {0,1,2}
  pub torn·vectors : vectors_of torn (files torn) ≡ (negsuc 0 ∷ pos 0 ∷ pos 0 ∷ []) ∷ (negsuc 0 ∷ pos 0 ∷ pos 0 ∷ []) ∷ (pos 0 ∷ pos 0 ∷ pos 0 ∷ []) ∷ (pos 1 ∷ pos 0 ∷ negsuc 0 ∷ []) ∷ []
  -- the ring starts with cut 2. Files 2, 3 and 4 may move, each with gain 0; edition 1 takes 2, the lowest, and settles there. Level 2 holds 2 and 4 back, edition 3 takes 3, on no recipe, and then there is
  -- room for 0 in A: cut 0
  pub ring·checked : check_job (limits_of 5 3 6 2) ring ≡ done
  pub ring·vectors : vectors_of ring (2 ∷ 3 ∷ 4 ∷ []) ≡ (pos 0 ∷ negsuc 0 ∷ pos 0 ∷ []) ∷ (pos 0 ∷ pos 0 ∷ pos 0 ∷ []) ∷ (pos 0 ∷ negsuc 0 ∷ pos 0 ∷ []) ∷ []
  pub ring·first : map cuts_of (run ring) ≡ (2, 2) ∷ []
  pub ring·third : map cuts_of (passes ring (vector_tries ring)) ≡ (2, 0) ∷ (0, 0) ∷ []
  pub ring·moves : (tries ring ring.sides ≡ 2 ∷ 0 ∷ 3 ∷ 1 ∷ 4 ∷ []) × (vector_tries ring ring.sides ≡ 3 ∷ 0 ∷ 2 ∷ 1 ∷ 4 ∷ [])
