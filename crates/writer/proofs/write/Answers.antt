use Rattle.std.proofs.Common.{sym, ap, ◌∙◌, ◌*◌, refl, arith}
use Rattle.rules.specs.declared.Header.{Header}
use Rattle.rules.specs.Job.{Job}
use Rattle.rules.specs.Stored.{block_count}
use Rattle.rules.proofs.Writes.{write_done, write-exact}
use Rattle.job.specs.Given.{the_limits, the_job}
use Rattle.writer.proofs.Counts.{counts-refuse, counts-few, sound-refuse, is-sound, k-last, k-refuse}
use Rattle.writer.proofs.write.Goals as goal

pub returns-in_err-check_counts : goal.returns-in_err-check_counts
returns-in_err-check_counts c =
    counts-refuse _ _ _ c.count.ensures _ _ c.from_residual.ensures.1 c.in_err-check_counts.ensures

pub header_for-header-requires : goal.header_for-header-requires
header_for-header-requires c =
    let few = counts-few the_limits (the_job c.args.job c.args.book c.args.sides.now) c.args.out.now c.count.ensures c.in_ok-check_counts.ensures in
    (omega (arith, few.0), omega (arith, few.1), omega (arith, few.2))

pub returns-in_err-check_sound : goal.returns-in_err-check_sound
returns-in_err-check_sound c =
    sound-refuse _ _ _ c.header_for-header.ensures c.block_count.ensures _ _ c.from_residual-in_err-check_sound.ensures.1 c.in_err-check_sound.ensures

pub returns-in_err-refuse_if : goal.returns-in_err-refuse_if
returns-in_err-refuse_if c =
    let exit = c.from_residual-in_err-refuse_if.ensures.1 in
    k-refuse _ _ _ c.header_for-header.ensures c.block_count.ensures c.in_ok-check_sound.ensures _ _ c.bad_k.ensures exit c.in_err-refuse_if.ensures.numbers

pub invariant_of-checked : goal.invariant_of-checked
invariant_of-checked c =
    let job : Job = the_job c.args.job c.args.book c.args.sides.now in
    let s = is-sound the_limits job c.args.out.now c.header_for-header.ensures c.block_count.ensures c.in_ok-check_sound.ensures in
    record { own_header = c.header_for-header.ensures; sides_binary = s.binary; marks_few = s.marks }

pub put_blocks-requires : goal.put_blocks-requires
put_blocks-requires c =
    let own = c.header_for-header.ensures in
    let job : Job = the_job c.args.job c.args.book c.args.sides.now in
    let last = k-last the_limits job c.args.out.now own c.block_count.ensures c.in_ok-check_sound.ensures c.bad_k.ensures c.in_ok-refuse_if.ensures.numbers in
    write-exact _ _ _ last refl ∙ ap (λ (h : Header). 512 * block_count h) (sym own)

pub returns : goal.returns
returns c =
    let last = k-last _ _ _ c.header_for-header.ensures c.block_count.ensures c.in_ok-check_sound.ensures c.bad_k.ensures c.in_ok-refuse_if.ensures.numbers in
    write_done _ _ _ last refl c.put_blocks.ensures
