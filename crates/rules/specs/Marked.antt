-- Document 01's marked table, m1 to m9, and order 2's worked case, as one statement about the definitions (Marked `marked` of proofs/). Order 8 took m5 out of it: specs/Emptied.antt has its new answer.
-- Assumes nothing.
use Rattle.std.specs.Prelude.{ℕ, ◌≤◌, ◌≡◌, true, false, List, [], ◌∷◌, ◌++◌, map, length, set, replicate, pos, negsuc}
use Rattle.rules.specs.Writing.{contents}
use Rattle.rules.specs.Job.{Job, as_job, Limits, files, views, recipes}
use Rattle.rules.specs.Split.{gain, balanced}
use Rattle.rules.specs.Check.{done, check_job}
use Rattle.rules.specs.Move.{State, start, after, scans, visits}
use Rattle.rules.specs.Pass.{Pass, pass}
use Rattle.rules.specs.Run.{run, last_of}
use Rattle.rules.specs.Stored.{block_check, job_of, Room, read_verdict}
use Rattle.rules.specs.Report.{text, prints}
use Rattle.rules.specs.Trace.{traces}

-- files of size 1, ratio 1/2, none pinned, cap 0, k 1
abbrev pub small : List ℕ → List ℕ → List ℕ → Job
small sides bounds pins = record {
  sizes = replicate (length sides) 1;
  sides = sides;
  marks = replicate (length sides) 0;
  bounds = bounds;
  pins = pins;
  num = 1;
  den = 2;
  cap = 0;
  k = 1;
}

-- recipes {0,1}, {2,3}, {1,2}; sides A, B, A, B
abbrev pub chain : Job
chain = small (0 ∷ 1 ∷ 0 ∷ 1 ∷ []) (0 ∷ 2 ∷ 4 ∷ 6 ∷ []) (0 ∷ 1 ∷ 2 ∷ 3 ∷ 1 ∷ 2 ∷ [])

-- a block as bytes: its number, its kind, its values, unused ones zero, and the two bytes of its check
abbrev pub checked : ℕ → ℕ → List ℕ → ℕ → ℕ → List ℕ
checked number kind values low high = contents number kind values ++ (low ∷ high ∷ [])

-- the chain as it is stored
abbrev pub chain_bytes : List ℕ
chain_bytes =
    checked 0 1 (4 ∷ 3 ∷ 6 ∷ 1 ∷ 2 ∷ 0 ∷ []) 244 85
    ++ (checked 1 2 (1 ∷ 0 ∷ 1 ∷ 1 ∷ 1 ∷ 0 ∷ 1 ∷ 1 ∷ []) 198 85
    ++ (checked 2 3 (0 ∷ 2 ∷ 4 ∷ 6 ∷ []) 228 85
    ++ checked 3 4 (0 ∷ 1 ∷ 2 ∷ 3 ∷ 1 ∷ 2 ∷ []) 225 85))

-- recipe {0,1,2}, files 0 and 1 in A, 2 in B
abbrev pub triple : Job
triple = small (0 ∷ 0 ∷ 1 ∷ []) (0 ∷ 3 ∷ []) (0 ∷ 1 ∷ 2 ∷ [])

-- document 02, order 2: sizes 10 (pinned in A), 1, 1, 1, ratio 1/2 and the others in B; recipes {0,1}, {2,3}
abbrev pub archive : Job
archive = as_job (10 ∷ 1 ∷ 1 ∷ 1 ∷ []) (0 ∷ 1 ∷ 1 ∷ 1 ∷ []) (1 ∷ 0 ∷ 0 ∷ 0 ∷ []) (0 ∷ 2 ∷ 4 ∷ []) (0 ∷ 1 ∷ 2 ∷ 3 ∷ []) 1 2 0 1

abbrev pub begin : Job → State
begin job = start job job.sides

-- the scan kinds of a move sequence that no pass chose
abbrev pub given : Job → List ℕ → List ℕ
given job ms = map (λ s. s.kind) (scans (recipes job) (begin job) ms)

-- what the table says of one pass: moves, cuts after, scans, visits, kept
abbrev pub said : Pass → List ℕ × List ℕ × ℕ × ℕ × ℕ
said p = (p.tried, p.cuts, length p.scanned, p.visited, p.kept)

pub record Marked : Type 0 where
  -- the chain: a job, under any limits that are wide enough for it; its passes; its gain list at the end; as it is stored; what the program prints of that
  pub m1·check : (most : Limits) → 4 ≤ most.files → 3 ≤ most.recipes → 6 ≤ most.pins → 2 ≤ most.den → check_job most chain ≡ done
  pub m1·passes :
      map said (run chain) ≡
      (1 ∷ 2 ∷ 0 ∷ 3 ∷ [], 1 ∷ 1 ∷ 2 ∷ 3 ∷ [], 9, 18, 1) ∷ (2 ∷ 1 ∷ 3 ∷ 0 ∷ [], 1 ∷ 1 ∷ 2 ∷ 1 ∷ [], 9, 18, 0) ∷ []
  pub m1·gains : (last_of (pass chain chain.sides) (run chain)).gains ≡ pos 1 ∷ pos 0 ∷ pos 0 ∷ negsuc 0 ∷ []
  pub m1·stored : job_of chain_bytes ≡ chain
  pub m1·prints : (most : Limits) → 4 ≤ most.files → 3 ≤ most.recipes → 6 ≤ most.pins → 2 ≤ most.den
      → prints 1 most chain_bytes ≡ text "done\ncut 3 1\nsize 3 1\npasses 2\nsettled yes\nkept 1\nvisits 36\nsides AAAB\n"
  -- and what the program that shows one pass prints
  pub m1·traces : (most : Limits) → 4 ≤ most.files → 3 ≤ most.recipes → 6 ≤ most.pins → 2 ≤ most.den
      → traces 1 most chain_bytes
      ≡ text "done\nmove 1 2 1\nscan 0 2\nscan 0 3\nscan 2 2\nscan 2 3\nmove 2 0 1\nscan 1 2\nscan 1 3\nscan 2 1\nmove 0 -1 2\nscan 0 1\nmove 3 -1 3\nscan 1 1\n"
      ++ text "gains -1 2 0 -1\ncut 3 1\nsize 3 1\ntried 4\nkept 1\nscans 9\nvisits 18\nsides AAAB\n"
  -- its starting gains
  pub m2 : map (gain chain.sides (recipes chain)) (files chain) ≡ pos 1 ∷ pos 2 ∷ pos 2 ∷ pos 1 ∷ []
  -- after its first move the free files 0, 2, 3 have gains -1, 0, 1
  pub m3 : map (gain (after (begin chain) (1 ∷ [])).sides (recipes chain)) (0 ∷ 2 ∷ 3 ∷ []) ≡ negsuc 0 ∷ pos 0 ∷ pos 1 ∷ []
  -- in it |A| of 1 and 3 is balanced, 0 and 4 not
  pub m4 : map (balanced chain) (0 ∷ 1 ∷ 3 ∷ 4 ∷ []) ≡ false ∷ true ∷ true ∷ false ∷ []
  -- the move sequence 0, 1, 2, given and not chosen by a pass, gives scan kinds 2, 4, 3, 1, so 12 visits and the bound met
  pub m6·kinds : given triple (0 ∷ 1 ∷ 2 ∷ []) ≡ 2 ∷ 4 ∷ 3 ∷ 1 ∷ []
  pub m6·visits : visits (views triple) (scans (recipes triple) (begin triple) (0 ∷ 1 ∷ 2 ∷ [])) ≡ 12
  -- "Errors to catch": in its recipe the moves 0, 2, 1 give three and not five
  pub m6·three : given triple (0 ∷ 2 ∷ 1 ∷ []) ≡ 2 ∷ 4 ∷ 2 ∷ []
  -- 510 zero bytes have check 21,845; only byte 509 set, to 255: 20,823
  pub m7 : block_check (replicate 510 0) ≡ 21845
  pub m8 : block_check (set (replicate 510 0) 509 255) ≡ 20823
  -- a 512-byte file of zeros is refused 21, under any limits: by reading, whatever is lent, and so by the program
  pub m9·reads : (most : Limits) (room : Room) → read_verdict most (replicate 512 0) room ≡ record { number = 21; place = 0 }
  pub m9·prints : (most : Limits) → prints 1 most (replicate 512 0) ≡ text "refused 21 0\n"
  -- order 2's worked case: it starts at 10 and is refused 9, under any limits wide enough; A may be 6 or 7
  pub order2·refused : (most : Limits) → 4 ≤ most.files → 2 ≤ most.recipes → 4 ≤ most.pins → 2 ≤ most.den → check_job most archive ≡ record { number = 9; place = 0 }
  pub order2·window : map (balanced archive) (5 ∷ 6 ∷ 7 ∷ 8 ∷ 10 ∷ []) ≡ false ∷ true ∷ true ∷ false ∷ false ∷ []
