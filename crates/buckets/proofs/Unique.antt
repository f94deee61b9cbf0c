-- The promise of each public call settles what it answers and leaves: any two results that meet it, of the same arguments, are the same.
-- The promises cited are those that the check reads from the contracts in src/. Assumes nothing.
use Rattle.std.proofs.Common.{◌≡◌, ℕ, List, Option, ap, ap₂}
use Rattle.rules.proofs.Settling.{Settles, both}
use Rattle.choice.specs.declared.edition1.Best.{Best}
use Rattle.choice.proofs.CasesOne.{as_best-one}
use Rattle.buckets.specs.declared.slots.Shape.{Shape}
use Rattle.buckets.specs.Offers.{Chosen}
use Rattle.buckets.proofs.slots.Buckets.choose_front.Kinds as choose-kinds
use Rattle.buckets.proofs.slots.Buckets.choose_front.Reads as choose
use Rattle.buckets.proofs.slots.Buckets.enter_all.Kinds as enter-kinds
use Rattle.buckets.proofs.slots.Buckets.enter_all.Reads as enter
use Rattle.buckets.proofs.slots.Buckets.take_out.Kinds as take-kinds
use Rattle.buckets.proofs.slots.Buckets.take_out.Reads as take
use Rattle.buckets.proofs.slots.Buckets.to_front.Kinds as front-kinds
use Rattle.buckets.proofs.slots.Buckets.to_front.Reads as front

-- what is left of the buckets: their links and their shape
abbrev Left : Type 0
Left = List ℕ × Shape

pair : {A B : Type 0} {a b : A} {c d : B} → a ≡ b → c ≡ d → ◌≡◌ {A = A × B} (a, c) (b, d)
pair p q = ap₂ (λ x y. (x, y)) p q

pub enter-all-settled : Settles _ enter-kinds.ps enter-kinds.r Left (λ κs x e. (e.0.now.links.now, e.0.now.shape)) enter.Post
enter-all-settled κs a x y e f p q = pair (both p.1 q.1) (both p.0.shape q.0.shape)

pub take-out-settled : Settles _ take-kinds.ps take-kinds.r Left (λ κs x e. (e.0.now.links.now, e.0.now.shape)) take.Post
take-out-settled κs a x y e f p q = pair (both p.1 q.1) (both p.0.shape q.0.shape)

pub to-front-settled : Settles _ front-kinds.ps front-kinds.r Left (λ κs x e. (e.0.now.links.now, e.0.now.shape)) front.Post
to-front-settled κs a x y e f p q = pair (both p.1 q.1) (both p.0.shape q.0.shape)

-- the answer, and the buckets
pub choose-front-settled : Settles _ choose-kinds.ps choose-kinds.r (Option Best × (List ℕ × Shape)) (λ κs x e. (x, (e.0.now.links.now, e.0.now.shape))) choose.Post
choose-front-settled κs a x y e f p q =
    let chosen = both p.1.0 q.1.0 in
    pair (as_best-one _ x y p.1.1 q.1.1 (ap (λ (c : Chosen). c.best) chosen)) (pair (ap (λ (c : Chosen). c.links) chosen) (both p.0.shape q.0.shape))
