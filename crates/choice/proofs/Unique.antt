-- The promise of each public call settles what it answers: any two results that meet it, of the same arguments, are the same.
-- The promises cited are those that the check reads from the contracts in src/. Assumes nothing.
use Rattle.std.proofs.Common.{ℕ, Option}
use Rattle.rules.proofs.Settling.{Settles, both}
use Rattle.choice.specs.declared.edition1.Best.{Best}
use Rattle.choice.proofs.CasesOne.{as_best-one, as_file-one, as_side-one}
use Rattle.choice.proofs.edition1.choose.Kinds as choose-kinds
use Rattle.choice.proofs.edition1.choose.Reads as choose
use Rattle.choice.proofs.heavy.heavy_side.Kinds as heavy-side-kinds
use Rattle.choice.proofs.heavy.heavy_side.Reads as heavy-side
use Rattle.choice.proofs.heavy.greatest_on.Kinds as greatest-on-kinds
use Rattle.choice.proofs.heavy.greatest_on.Reads as greatest-on
use Rattle.choice.proofs.window.Window.dist_after.Kinds as dist-after-kinds
use Rattle.choice.proofs.window.Window.dist_after.Reads as dist-after
use Rattle.choice.proofs.window.size_after.Kinds as size-after-kinds
use Rattle.choice.proofs.window.size_after.Reads as size-after

pub choose-settled : Settles _ choose-kinds.ps choose-kinds.r (Option Best) (λ κs x e. x) choose.Post
choose-settled κs a x y e f p q = as_best-one _ x y p.1 q.1 (both p.0 q.0)

pub heavy-side-settled : Settles 0 heavy-side-kinds.ps heavy-side-kinds.r (Option ℕ) (λ κs x e. x) heavy-side.Post
heavy-side-settled κs a x y e f p q = as_side-one x y p.1 q.1 (both p.0 q.0)

pub greatest-on-settled : Settles 3 greatest-on-kinds.ps greatest-on-kinds.r (Option ℕ) (λ κs x e. x) greatest-on.Post
greatest-on-settled κs a x y e f p q = as_file-one _ x y p.1 q.1 (both p.0 q.0)

pub size-after-settled : Settles 0 size-after-kinds.ps size-after-kinds.r ℕ (λ κs x e. x) size-after.Post
size-after-settled κs a x y e f p q = both p q

pub dist-after-settled : Settles 0 dist-after-kinds.ps dist-after-kinds.r ℕ (λ κs x e. x) dist-after.Post
dist-after-settled κs a x y e f p q = both p q
