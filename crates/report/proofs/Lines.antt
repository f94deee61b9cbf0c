-- The first lines, the lines of a report and those of a balancing: as forms, and how long they can be. Assumes nothing.
use mathlib.Core.Path.{◌≡◌, refl}
use Prim.Native.Nat.{ℕ, ◌+◌, ◌≤◌}
use mathlib.Core.Bool.{Bool, true, false}
use mathlib.Core.List.{List, [], ◌∷◌, ◌++◌, map, append-nil, append_assoc}
use native.Mathlib.Omega.{arith}
use lib.ListN.{length, length-append, length-map}
use borrow.Author.Tests.{eq-eqb, ne_eqb}
use Rattle.rules.specs.Lists.{up_to}
use Rattle.rules.proofs.Count.{length-up_to}
use Rattle.rules.specs.Numbers.{RunFigures}
use Rattle.rules.specs.Numbers.{BalanceFigures}
use Rattle.rules.specs.declared.Verdict.{Verdict}
use Rattle.rules.specs.Job.{Job}
use Rattle.rules.specs.Split.{size_on}
use Rattle.rules.specs.Report.{text, spaced, line, refusal, first_lines, letter_of, size_line, sides_line, figure_lines, of_files}
use Rattle.rules.specs.Balance.{balance_lines}
use Rattle.report.specs.Laying.{pieces, shown, filled}
use Rattle.report.specs.Steps.{settled_line}
use Rattle.report.proofs.Forms.{joined}

-- the letters ask for no size
pub sides-alone : (sizes marks sides : List ℕ) → sides_line (of_files [] marks) sides ≡ sides_line (of_files sizes marks) sides
unfolding sides_line
sides-alone sizes marks sides = refl

-- ---- forms filled in

module _ (unread holding : ℕ) where
  pub first_done : unread ≡ 0 → text "done\n" ≡ first_lines unread holding
  unfolding first_lines line spaced text
  first_done h = rw (eq-eqb unread 0 h)

  pub first-partial : (unread ≡ 0 → ⊥) → filled (unread ∷ holding ∷ []) (text "partial\nunread 0 1\n") ≡ first_lines unread holding
  unfolding first_lines line spaced text pieces shown
  first-partial h = rw (ne_eqb unread 0 h) (simp (append_assoc, append-nil))

pub refusal-form : (v : Verdict) → filled (v.number ∷ v.place ∷ []) (text "refused 0 1\n") ≡ refusal v
unfolding refusal line spaced text pieces shown
refusal-form v = simp (append_assoc, append-nil)

passes-form : (a b c d p : ℕ) → filled (a ∷ b ∷ c ∷ d ∷ p ∷ []) (text "cut 0 1\nsize 2 3\npasses 4\n")
    ≡ line "cut" (a ∷ b ∷ []) ++ line "size" (c ∷ d ∷ []) ++ line "passes" (p ∷ [])
unfolding line spaced text pieces shown
passes-form a b c d p =
    let ns : List ℕ = a ∷ b ∷ c ∷ d ∷ p ∷ [] in
    let cut : filled ns (text "cut 0 1\n") ≡ line "cut" (a ∷ b ∷ []) = simp (append_assoc, append-nil) in
    let size : filled ns (text "size 2 3\n") ≡ line "size" (c ∷ d ∷ []) = simp (append_assoc, append-nil) in
    let passes : filled ns (text "passes 4\n") ≡ line "passes" (p ∷ []) = simp append-nil in
    joined ns (text "cut 0 1\nsize 2 3\n") (text "passes 4\n") (joined ns (text "cut 0 1\n") (text "size 2 3\n") cut size) passes

last-form : (k v : ℕ) → filled (k ∷ v ∷ []) (text "kept 0\nvisits 1\n") ≡ line "kept" (k ∷ []) ++ line "visits" (v ∷ [])
unfolding line spaced text pieces shown
last-form k v =
    let kept : filled (k ∷ v ∷ []) (text "kept 0\n") ≡ line "kept" (k ∷ []) = simp append-nil in
    let visits : filled (k ∷ v ∷ []) (text "visits 1\n") ≡ line "visits" (v ∷ []) = simp append-nil in
    joined (k ∷ v ∷ []) (text "kept 0\n") (text "visits 1\n") kept visits

pub figure-form : (job : Job) (r : RunFigures) (sides : List ℕ) (b : ℕ) → b ≡ size_on job 1 sides
    → first_lines r.figures.unread r.figures.holding
    ++ filled (r.figures.before ∷ r.figures.cut ∷ r.figures.size ∷ b ∷ r.passes ∷ []) (text "cut 0 1\nsize 2 3\npasses 4\n")
    ++ settled_line r.settled ++ filled (r.figures.kept ∷ r.figures.visits ∷ []) (text "kept 0\nvisits 1\n") ++ sides_line job sides
    ≡ figure_lines job r sides
unfolding figure_lines size_line
figure-form job r sides b e =
    let f = r.figures in
    rw (passes-form f.before f.cut f.size b r.passes, last-form f.kept f.visits, e) (simp append_assoc)

moves-form : (m c a b : ℕ) → filled (m ∷ c ∷ a ∷ b ∷ []) (text "moves 0\ncut 1\nsize 2 3\n") ≡ line "moves" (m ∷ []) ++ line "cut" (c ∷ []) ++ line "size" (a ∷ b ∷ [])
unfolding line spaced text pieces shown
moves-form m c a b =
    let ns : List ℕ = m ∷ c ∷ a ∷ b ∷ [] in
    let moves : filled ns (text "moves 0\n") ≡ line "moves" (m ∷ []) = simp append-nil in
    let cut : filled ns (text "cut 1\n") ≡ line "cut" (c ∷ []) = simp append-nil in
    let size : filled ns (text "size 2 3\n") ≡ line "size" (a ∷ b ∷ []) = simp (append_assoc, append-nil) in
    joined ns (text "moves 0\ncut 1\n") (text "size 2 3\n") (joined ns (text "moves 0\n") (text "cut 1\n") moves cut) size

pub balance-form : (job : Job) (a : BalanceFigures) (sides : List ℕ) (b : ℕ) → b ≡ size_on job 1 sides
    → first_lines a.unread a.holding ++ filled (a.moves ∷ a.cut ∷ a.size ∷ b ∷ []) (text "moves 0\ncut 1\nsize 2 3\n") ≡ balance_lines job a sides
unfolding balance_lines size_line
balance-form job a sides b e = rw (moves-form a.moves a.cut a.size b, e) (simp append_assoc)

-- ---- how long

pub settled-length : (b : Bool) → length (settled_line b) ≤ 12
unfolding line spaced text
settled-length true = omega arith
settled-length false = omega arith

pub sides-length : (job : Job) (sides : List ℕ) → length (sides_line job sides) ≡ length sides + 7
unfolding sides_line text
sides-length job sides =
    let letters : List ℕ = map (letter_of job sides) (up_to (length sides)) in
    omega (arith, length-append (text "sides " ++ letters) (10 ∷ []), length-append (text "sides ") letters, length-map (up_to (length sides)) (letter_of job sides), length-up_to (length sides))
