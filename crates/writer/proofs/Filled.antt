-- A block as it is filled: its head, one value more, and its check. Assumes nothing.
use mathlib.Core.Path.{◌≡◌, refl, sym, ap, ◌∙◌}
use Prim.Native.Nat.{ℕ, ◌+◌, ◌-◌, ◌*◌, ◌≤◌}
use mathlib.Core.List.{List, [], ◌∷◌, ◌++◌, map}
use native.Mathlib.Omega.{arith}
use lib.ListN.{length, set, take, replicate, length-append, length-replicate}
use lib.Seq.{paste}
use Rattle.rules.specs.declared.Header.{Header}
use Rattle.rules.specs.Lists.{up_to, onto, padded}
use Rattle.rules.specs.Job.{Job}
use Rattle.rules.specs.Stored.{block_check, kind_of, values_in}
use Rattle.rules.specs.Writing.{two_bytes, value_bytes, contents, block_of, header_for, job_value, job_block}
use Rattle.rules.proofs.Count.{tabled-more, length-tabled}
use Rattle.rules.proofs.Entries.{onto-paste, onto-take, onto-all, padded-onto}
use Rattle.rules.proofs.Words.{values_length, values-more, contents-length, check-same}
use Rattle.rules.proofs.RoundTrip.{few-values}
use Rattle.writer.specs.Filling.{filled}

abbrev zeros : List ℕ
zeros = replicate 512 0

zeros-length : length zeros ≡ 512
zeros-length = length-replicate {A = ℕ} 512 0

abbrev first : ℕ → ℕ → ℕ → List ℕ → List ℕ
first b kind n vs = two_bytes b ++ (kind ∷ n ∷ value_bytes vs)

first-length : (b kind n : ℕ) (vs : List ℕ) → length (first b kind n vs) ≡ 4 + 2 * length vs
first-length b kind n vs = omega (arith, values_length vs)

-- a word at the end of the bytes put in so far
word_more : (xs : List ℕ) (i x : ℕ) → length xs ≡ i → paste (onto xs zeros) i (two_bytes x) 2 ≡ onto (xs ++ two_bytes x) zeros
word_more xs i x l = ap (λ (k : ℕ). paste (onto xs zeros) k (two_bytes x) 2) (sym l) ∙ onto-paste xs (two_bytes x) zeros

pub filled_none : (b kind n : ℕ) → set (set (paste zeros 0 (two_bytes b) 2) 2 kind) 3 n ≡ filled b kind n []
unfolding filled onto value_bytes
filled_none b kind n = refl

pub filled_more : (b kind n : ℕ) (f : ℕ → ℕ) (v x : ℕ) → x ≡ f v
    → paste (filled b kind n (map f (up_to v))) (4 + 2 * v) (two_bytes x) 2 ≡ filled b kind n (map f (up_to (v + 1)))
unfolding filled
filled_more b kind n f v x e =
    let vs : List ℕ = map f (up_to v) in
    word_more (first b kind n vs) (4 + 2 * v) x (first-length b kind n vs ∙ ap (λ (k : ℕ). 4 + 2 * k) (length-tabled f v))
    ∙ ap (λ (t : List ℕ). onto (two_bytes b ++ (kind ∷ n ∷ t)) zeros) (sym (values-more vs x))
    ∙ ap (λ (y : ℕ). onto (first b kind n (vs ++ (y ∷ []))) zeros) e
    ∙ ap (λ (t : List ℕ). onto (first b kind n t) zeros) (sym (tabled-more f v))

module _ (b kind : ℕ) (vs : List ℕ) (few : length vs ≤ 253) where
  contents-padded : contents b kind vs ≡ padded 510 0 (first b kind (length vs) vs)
  unfolding contents padded
  contents-padded =
      let xs : List ℕ = first b kind (length vs) vs in
      let k : 506 - length (value_bytes vs) ≡ 510 - length xs = omega (arith, values_length vs) in
      ap (λ (m : ℕ). xs ++ replicate m 0) k

  -- its first 510 bytes are its contents
  filled-all : filled b kind (length vs) vs ≡ onto (contents b kind vs) zeros
  unfolding filled
  filled-all =
      let xs : List ℕ = first b kind (length vs) vs in
      sym (ap (λ (t : List ℕ). onto t zeros) contents-padded ∙ padded-onto 510 512 0 xs (omega (arith, first-length b kind (length vs) vs)) (omega arith))

  filled-check : block_check (contents b kind vs) ≡ block_check (filled b kind (length vs) vs)
  filled-check =
      let c : List ℕ = contents b kind vs in
      check-same b kind vs few (filled b kind (length vs) vs)
      (ap (λ (t : List ℕ). take 510 t) filled-all ∙ ap (λ (k : ℕ). take k (onto c zeros)) (sym (contents-length b kind vs few)) ∙ onto-take c zeros)

  pub filled-whole : paste (filled b kind (length vs) vs) 510 (two_bytes (block_check (filled b kind (length vs) vs))) 2 ≡ block_of b kind vs
  unfolding block_of
  filled-whole =
      let c : List ℕ = contents b kind vs in
      let k : ℕ = block_check c in
      let l : length c ≡ 510 = contents-length b kind vs few in
      ap (λ (x : ℕ). paste (filled b kind (length vs) vs) 510 (two_bytes x) 2) (sym filled-check)
      ∙ ap (λ (t : List ℕ). paste t 510 (two_bytes k) 2) filled-all
      ∙ word_more c 510 k l
      ∙ onto-all (c ++ two_bytes k) zeros (zeros-length ∙ omega (arith, length-append c (two_bytes k)))

-- block b of the job whose header is h
pub filled-block : (h : Header) (job : Job) (b n : ℕ) → h ≡ header_for job → n ≡ values_in h b → (block : List ℕ)
    → block ≡ filled b (kind_of h b) n (map (job_value job b) (up_to n)) → paste block 510 (two_bytes (block_check block)) 2 ≡ job_block job b
unfolding job_block
filled-block h job b n e k block p =
    let vs : List ℕ = map (job_value job b) (up_to n) in
    let l : length vs ≡ n = length-tabled (job_value job b) n in
    ap (λ (t : List ℕ). paste t 510 (two_bytes (block_check t)) 2) (p ∙ ap (λ (m : ℕ). filled b (kind_of h b) m vs) (sym l))
    ∙ filled-whole b (kind_of h b) vs (omega (arith, few-values h b))
    ∙ ap (λ (m : ℕ). block_of b (kind_of h b) (map (job_value job b) (up_to m))) k
    ∙ ap (λ (g : Header). block_of b (kind_of g b) (map (job_value job b) (up_to (values_in g b)))) e
