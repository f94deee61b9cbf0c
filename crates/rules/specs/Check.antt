-- Document 01, "Numbers for no": its table, row by row, and the check of a job: the first row that is given, in the order 1 to 8, 10 and 9. Assumes nothing.
use Rattle.std.specs.Prelude.{ℕ, suc, ◌+◌, ◌*◌, Bool, true, false, not, cond, ◌&&◌, ◌||◌, length, get_or, leb, ltb, eqb}
use Rattle.rules.specs.declared.Verdict.{Verdict}
use Rattle.rules.specs.Numbers.{Measure}
use Rattle.rules.specs.Lists.{count, lowest, some_below}
use Rattle.rules.specs.Job.{Job, Limits, file_count, recipe_count, pin_count, bound, pin, files, recipes, Lent, fits}
use Rattle.rules.specs.Split.{size_of, is_free, unread_files, unread_recipes, weight, tolerance, size_a, balanced, cut}

-- ---- verdicts

abbrev pub done : Verdict
done = record { number = 0; place = 0 }

abbrev pub is_done : Verdict → Bool
is_done v = eqb v.number 0

-- refused with number n and place p, if the test passes
abbrev pub refuse_if : Bool → ℕ → ℕ → Verdict
refuse_if true n p = record { number = n; place = p }
refuse_if false n p = done

-- refused with number k, at the lowest i below n that passes the test
abbrev pub refuse_at : ℕ → (ℕ → Bool) → ℕ → Verdict
refuse_at k p n = refuse_if (some_below p n) k (lowest p n)

-- the first that applies is the answer
infixr 20 ◌or_else◌
abbrev pub ◌or_else◌ : Verdict → Verdict → Verdict
v or_else w = cond (is_done v) w v

-- ---- rows: number, given when, place

pub record Row : Type 0 where
  pub number : ℕ
  pub given : Bool
  pub place : ℕ

-- one after the other
infixr 20 ◌followed_by◌
pub data Rows : Type 0 where
  none : Rows
  one : Row → Rows
  ◌followed_by◌ : Rows → Rows → Rows

abbrev pub row : ℕ → Bool → ℕ → Rows
row n given place = one (record { number = n; given = given; place = place })

-- given if some i below n passes the test, at the lowest
abbrev pub row_at : ℕ → (ℕ → Bool) → ℕ → Rows
row_at k test n = row k (some_below test n) (lowest test n)

-- the first that is given is the answer, and done where none is
abbrev pub first_given : Rows → Verdict
first_given none = done
first_given (one r) = refuse_if r.given r.number r.place
first_given (xs followed_by ys) = first_given xs or_else first_given ys

-- ---- 1: C or N is 0; 2: C, N or P over its most; of a job's counts, and of those in a stored job's header

abbrev pub empty : ℕ → ℕ → Bool
empty c n = eqb c 0 || eqb n 0

abbrev pub over_most : Limits → ℕ → ℕ → ℕ → Bool
over_most most c n p = ltb most.files c || ltb most.recipes n || ltb most.pins p

abbrev pub count_rows : Limits → ℕ → ℕ → ℕ → Rows
count_rows most c n p = row 1 (empty c n) 0 followed_by row 2 (over_most most c n p) 0

-- ---- 3: sides or marks not C long, or a lent list of wrong length; `lent` says that those are right

abbrev pub wrong_length : Job → Bool → Bool
wrong_length job lent = not (eqb (length job.sides) (file_count job) && eqb (length job.marks) (file_count job) && lent)

abbrev pub list_rows : Job → Bool → Rows
list_rows job lent = row 3 (wrong_length job lent) 0

-- ---- 4: first bound not 0; then a recipe j with fewer than two pins; then last bound not P

abbrev pub starts_late : Job → Bool
starts_late job = not (eqb (bound job 0) 0)

-- its bound j + 1 is less than 2 plus its bound j
abbrev pub short : Job → ℕ → Bool
short job j = ltb (bound job (suc j)) (2 + bound job j)

abbrev pub ends_wrong : Job → Bool
ends_wrong job = not (eqb (bound job (recipe_count job)) (pin_count job))

abbrev pub bound_rows : Job → Rows
bound_rows job = row 4 (starts_late job) 0 followed_by row_at 4 (short job) (recipe_count job) followed_by row 4 (ends_wrong job) (recipe_count job)

-- ---- 5: a pin is C or more, or repeats an earlier pin of its recipe

-- the pin at position k repeats an earlier pin of recipe j
abbrev pub repeats_in : Job → ℕ → ℕ → Bool
repeats_in job k j =
    leb (bound job j) k && ltb k (bound job (suc j))
    && some_below (λ i. leb (bound job j) i && eqb (pin job i) (pin job k)) k

unfoldable pub bad_pin : Job → ℕ → Bool
bad_pin job k = leb (file_count job) (pin job k) || some_below (repeats_in job k) (recipe_count job)

abbrev pub pin_rows : Job → Rows
pin_rows job = row_at 5 (bad_pin job) (pin_count job)

-- ---- 6: size 0, side over 1 or mark over 2

abbrev pub bad_file : Job → ℕ → Bool
bad_file job f = eqb (size_of job f) 0 || ltb 1 (get_or job.sides f 0) || ltb 2 (get_or job.marks f 0)

abbrev pub file_rows : Job → Rows
file_rows job = row_at 6 (bad_file job) (file_count job)

-- ---- 7: num 0, num not below den, or den over its most; then k not 1 to 4 (document 02, order 6)

abbrev pub bad_ratio : Limits → Job → Bool
bad_ratio most job = eqb job.num 0 || leb job.den job.num || ltb most.den job.den

abbrev pub bad_k : ℕ → Bool
bad_k k = eqb k 0 || ltb 4 k

abbrev pub ratio_rows : Limits → Job → Rows
ratio_rows most job = row 7 (bad_ratio most job) 0 followed_by row 7 (bad_k job.k) 0

-- ---- 8: no file is free

abbrev pub none_free : Job → Bool
none_free job = eqb (count (is_free job) (files job)) 0

abbrev pub free_rows : Job → Rows
free_rows job = row 8 (none_free job) 0

-- ---- 10: the window would allow a vault of size 0 (document 02, order 8)

-- num·W at most den·m, or num·W + den·m at least den·W, where m is the tolerance, k·smax
abbrev pub allows_empty : ℕ → ℕ → ℕ → ℕ → Bool
allows_empty num den w m = leb (num * w) (den * m) || leb (den * w) (num * w + den * m)

abbrev pub may_empty : Job → Bool
may_empty job = allows_empty job.num job.den (weight job) (tolerance job)

abbrev pub window_rows : Job → Rows
window_rows job = row 10 (may_empty job) 0

-- ---- 9: the start is not balanced

abbrev pub bad_start : Job → Bool
bad_start job = not (balanced job (size_a job job.sides))

abbrev pub start_rows : Job → Rows
start_rows job = row 9 (bad_start job) 0

-- ---- in their order, and in pieces: 10 stands after 8 and before 9

-- 1 to 3: how many of each, and how long the lists are
abbrev pub length_rows : Limits → Job → Bool → Rows
length_rows most job lent = count_rows most (file_count job) (recipe_count job) (pin_count job) followed_by list_rows job lent

-- 4 to 6: what the lists hold
abbrev pub content_rows : Job → Rows
content_rows job = bound_rows job followed_by pin_rows job followed_by file_rows job

-- 1 to 6, which measure, reader and writer ask
abbrev pub sound_rows : Limits → Job → Bool → Rows
sound_rows most job lent = length_rows most job lent followed_by content_rows job

-- 7, 8 and 10, which stand before the 9 of a pass and before that of the balancing
abbrev pub goal_rows : Limits → Job → Rows
goal_rows most job = ratio_rows most job followed_by free_rows job followed_by window_rows job

-- 7 to 10, which a pass and a run ask besides
abbrev pub rest_rows : Limits → Job → Rows
rest_rows most job = goal_rows most job followed_by start_rows job

abbrev pub all_rows : Limits → Job → Bool → Rows
all_rows most job lent = sound_rows most job lent followed_by rest_rows most job

-- ---- the checks

unfoldable pub check_counts : Limits → ℕ → ℕ → ℕ → Verdict
check_counts most c n p = first_given (count_rows most c n p)

unfoldable pub check_lists : Job → Bool → Verdict
check_lists job lent = first_given (list_rows job lent)

unfoldable pub check_bounds : Job → Verdict
check_bounds job = first_given (bound_rows job)

unfoldable pub check_pins : Job → Verdict
check_pins job = first_given (pin_rows job)

unfoldable pub check_files : Job → Verdict
check_files job = first_given (file_rows job)

unfoldable pub check_ratio : Limits → Job → Verdict
check_ratio most job = first_given (ratio_rows most job)

unfoldable pub check_free : Job → Verdict
check_free job = first_given (free_rows job)

unfoldable pub check_window : Job → Verdict
check_window job = first_given (window_rows job)

unfoldable pub check_start : Job → Verdict
check_start job = first_given (start_rows job)

unfoldable pub check_lengths : Limits → Job → Bool → Verdict
check_lengths most job lent = first_given (length_rows most job lent)

unfoldable pub check_contents : Job → Verdict
check_contents job = first_given (content_rows job)

unfoldable pub check_sound : Limits → Job → Bool → Verdict
check_sound most job lent = first_given (sound_rows most job lent)

unfoldable pub check_goal : Limits → Job → Verdict
check_goal most job = first_given (goal_rows most job)

unfoldable pub check_rest : Limits → Job → Verdict
check_rest most job = first_given (rest_rows most job)

-- a pass and a run give 1 to 10; the check of a job, as a call of its own, the same with nothing lent
unfoldable pub check : Limits → Job → Bool → Verdict
check most job lent = first_given (all_rows most job lent)

abbrev pub check_job : Limits → Job → Verdict
check_job most job = check most job true

-- ---- 32: an edition of the choice that there is not (document 02, order 9)

abbrev pub is_edition : ℕ → Bool
is_edition edition = eqb edition 1 || eqb edition 2

abbrev pub edition_rows : ℕ → Rows
edition_rows edition = row 32 (not (is_edition edition)) 0

-- of a pass or a run by this edition that is lent these lists: 32 stands before all others
abbrev pub lent_rows : ℕ → Limits → Job → Lent → Rows
lent_rows edition most job l = edition_rows edition followed_by all_rows most job (fits edition job l)

unfoldable pub check_edition : ℕ → Verdict
check_edition edition = first_given (edition_rows edition)

unfoldable pub check_lent : ℕ → Limits → Job → Lent → Verdict
check_lent edition most job l = first_given (lent_rows edition most job l)

-- ---- the measure: 1 to 6, else the cut and |A| and what could not be read, nothing moved

unfoldable pub measure : Limits → Job → Measure
measure most job =
    let v = check_sound most job true in
    elim (is_done v) [
      | true ↦ record {
        verdict = v;
        cut = cut job.sides (recipes job);
        size = size_a job job.sides;
        unread = unread_files job;
        holding = unread_recipes job;
      }
      | false ↦ record { verdict = v; cut = 0; size = 0; unread = 0; holding = 0 }
    ]
