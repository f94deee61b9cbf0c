-- Which edition of the choice the arguments of a program name, 0 where they name none (document 02, order 9). Assumes nothing.
use Rattle.std.specs.Prelude.{◌≡◌, ◌≢◌, ℕ, true, cond, List, length, get_or, ltb, eqb, Option, Some, None}
use Rattle.rules.specs.Check.{is_edition}
use Rattle.rules.specs.Report.{digits}

-- 1 and 2 by their digits, and nothing else: not `01`, not `+1`, not an empty argument
abbrev pub of_digit : ℕ → ℕ
of_digit b = cond (eqb b 49) 1 (cond (eqb b 50) 2 0)

unfoldable pub edition_in : List ℕ → ℕ
edition_in word = cond (eqb (length word) 1) (of_digit (get_or word 0 0)) 0

-- of a program started with this many words, its own name among them, the first argument being `word`: without any argument the edition
-- that goes unsaid; a second argument names none
unfoldable pub edition_named : ℕ → List ℕ → ℕ → ℕ
edition_named words word unsaid = cond (ltb words 2) unsaid (cond (ltb 2 words) 0 (edition_in word))

-- ---- each edition is named by its own digits, and none by any other word (Named `names-hold`)

pub record NamesHold : Type 0 where
  pub one : edition_in (digits 1) ≡ 1
  pub two : edition_in (digits 2) ≡ 2
  pub only : (word : List ℕ) (e : ℕ) → edition_in word ≡ e → e ≢ 0 → (is_edition e ≡ true) × (word ≡ digits e)

-- the edition as src/ answers it: 0 is none
abbrev pub as_edition : Option ℕ → ℕ
as_edition None = 0
as_edition (Some edition) = edition
