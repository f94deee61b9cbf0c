use Rattle.std.proofs.Common.{◌≡◌, ◌+◌, ◌-◌, ◌*◌, refl, arith}
use Rattle.comparer.proofs.Records.{put-length}
use Rattle.comparer.proofs.Noted.{one-noted}
use Rattle.comparer.proofs.notes.Notes.note.Goals as goal

pub returns : goal.returns
returns c =
    let four : 4 * c.args.self.now.count + 4 - 4 * c.args.self.now.count ≡ 4 = omega arith in
    let d = c.args.d in
    record {
      same = refl;
      long = rw (four, c.copy_from_slice.ensures.after) (put-length _ d _ c.requires);
      few = omega arith;
      noted = rw (four, c.copy_from_slice.ensures.after) (one-noted _ _ d c.requires);
    }
