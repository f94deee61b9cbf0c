-- The check looks at the lent lists only after 1 and 2: a word on them matters for small jobs alone. Assumes nothing.
use mathlib.Core.Path.{◌≡◌, sym, ap, ◌∙◌}
use Prim.Native.Nat.{ℕ, ◌≤◌}
use mathlib.Core.Bool.{Bool, true, false, ◌||◌}
use lib.Dec.{ltb}
use borrow.Author.Tests.{ltb-false, le-ltb}
use Rattle.rules.specs.declared.Verdict.{Verdict}
use Rattle.rules.specs.Job.{Job, Limits, file_count, recipe_count, pin_count}
use Rattle.rules.specs.Check.{◌or_else◌, check_counts, check_lists, check_lengths, check_contents, check_sound, check_goal}
use Rattle.rules.proofs.Verdicts.{chain_same}
use Rattle.rules.proofs.SoundJob.{few-of, counts-pass}
use Rattle.rules.proofs.Tests.{clash, or_no}
use Rattle.job.specs.Survey.{check_for}
use Rattle.job.specs.Totals.{start_for}
use Rattle.job.proofs.Whole.{start-last}

pub word-late : (balancing : Bool) (most : Limits) (job : Job) (a b : Bool)
    → (file_count job ≤ most.files → recipe_count job ≤ most.recipes → pin_count job ≤ most.pins → a ≡ b) → check_for balancing most job a ≡ check_for balancing most job b
unfolding check_sound check_lengths check_counts check_lists check_contents
word-late balancing most job a b h =
    let counts : Verdict = check_counts most (file_count job) (recipe_count job) (pin_count job) in
    start-last balancing most job a
    ∙ ap (λ (v : Verdict). v or_else check_goal most job or_else start_for balancing job)
    (ap (λ (v : Verdict). v or_else check_contents job)
    (chain_same counts (check_lists job a) (check_lists job b)
    (λ z.
    let r = few-of most (file_count job) (recipe_count job) (pin_count job) (counts-pass most (file_count job) (recipe_count job) (pin_count job) z).1 in
    ap (check_lists job) (h r.0 r.1 r.2))))
    ∙ sym (start-last balancing most job b)

-- ---- three numbers, each against its most

module _ (a b c x y z : ℕ) where
  pub none_over : ((ltb a x || ltb b y) || ltb c z) ≡ false → (x ≤ a) × (y ≤ b) × (z ≤ c)
  none_over e =
      let p = or_no (ltb a x || ltb b y) (ltb c z) e in
      let q = or_no (ltb a x) (ltb b y) p.0 in
      (ltb-false a x q.0, ltb-false b y q.1, ltb-false c z p.1)

  pub some-over : ((ltb a x || ltb b y) || ltb c z) ≡ true → x ≤ a → y ≤ b → z ≤ c → ⊥
  some-over e h k l = clash (sym e ∙ rw (le-ltb a x h, le-ltb b y k, le-ltb c z l))
