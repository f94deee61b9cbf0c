-- The marked table, proved of the definitions. Assumes nothing.
use mathlib.Core.Path.{◌≡◌, refl, ap, ◌∙◌}
use Prim.Native.Nat.{ℕ, ◌≤◌}
use mathlib.Core.List.{List}
use borrow.Author.Tests.{le-ltb}
use Rattle.rules.specs.Lists.{total, count, those, largest, up_to, lowest, best_up_to, onto, padded, diff}
use Rattle.rules.specs.Job.{Job, Limits, limits_of, view_of, files, views, read_in, recipes}
use Rattle.rules.specs.Split.{count_on, is_cut, cut, times, alone, together, gain, unread_files, unread_recipes, weight, smax, size_on, balanced}
use Rattle.rules.specs.Check.{done, bad_pin, check, check_job}
use Rattle.rules.specs.Move.{moved, steps_by, size_after, legal, dist_after, challenge, first_below, choose, moves_by, moves, file_on, kinds_in, kinds_of, scans_from, scans, ends_from, visits}
use Rattle.rules.specs.Pass.{gains_when, cuts_after, cut_at, keeps, standing, gains_after, pass_of, leaves}
use Rattle.rules.specs.Run.{passes_by, most_passes, passes, last_of, figures_of, run_figures_of}
use Rattle.rules.specs.Stored.{weigh, block_check, header_of, laid_out, further_rows, job_of, read_verdict}
use Rattle.rules.specs.Report.{text, digits_in, spaced, line, refusal, first_lines, size_line, sides_line, figure_lines, report, all_room, prints}
use Rattle.rules.specs.Writing.{value_bytes, contents}
use Rattle.rules.specs.Trace.{signed, gain_words, scan_lines, move_lines, moves_lines, pass_lines, trace, traces}
use Rattle.rules.specs.Marked.{chain, archive, chain_bytes, Marked}
use Rattle.rules.proofs.Lending.{run_text, pass_text, prints-run, traces-pass, read_same}

-- ---- from bytes to bytes, of a stored job that the programs accept under these limits

module _ (most : Limits) (input : List ℕ) (job : Job) (stored : job_of input ≡ job)
    (read : read_verdict most input (all_room most) ≡ done) (ok : check_job most job ≡ done) where
  pub prints-whole : prints 1 most input ≡ run_text 1 job
  prints-whole = prints-run most input 1 refl read (rw stored ok) ∙ ap (run_text 1) stored

  pub traces-whole : traces 1 most input ≡ pass_text 1 most job
  traces-whole = traces-pass most input 1 refl read (rw stored ok) ∙ ap (pass_text 1 most) stored

-- ---- the chain

chain-stored : job_of chain_bytes ≡ chain
unfolding up_to padded contents value_bytes job_of header_of
chain-stored = refl

module _ (most : Limits) (f : 4 ≤ most.files) (r : 3 ≤ most.recipes) (p : 6 ≤ most.pins) (d : 2 ≤ most.den) where
  chain-read : read_verdict most chain_bytes (all_room most) ≡ done
  unfolding up_to lowest padded contents value_bytes weigh block_check header_of laid_out further_rows job_of read_verdict bad_pin check
  chain-read = read_same most (limits_of 4 3 6 2) chain_bytes (rw (le-ltb most.files 4 f, le-ltb most.recipes 3 r, le-ltb most.pins 6 p) refl) refl

  chain-checked : check_job most chain ≡ done
  unfolding total count largest up_to lowest best_up_to diff view_of files views read_in recipes those count_on is_cut cut times alone together gain weight smax size_on balanced bad_pin check
  chain-checked = rw (le-ltb most.files 4 f, le-ltb most.recipes 3 r, le-ltb most.pins 6 p, le-ltb most.den 2 d) refl

-- ---- the archive of order 2

archive-checked : (most : Limits) → 4 ≤ most.files → 2 ≤ most.recipes → 4 ≤ most.pins → 2 ≤ most.den → check_job most archive ≡ record { number = 9; place = 0 }
unfolding total count largest up_to lowest view_of files views read_in recipes those weight smax size_on balanced bad_pin check
archive-checked m f r p d = rw (le-ltb m.files 4 f, le-ltb m.recipes 2 r, le-ltb m.pins 4 p, le-ltb m.den 2 d) refl

pub marked : Marked
unfolding total count largest up_to lowest best_up_to diff view_of files views read_in recipes those count_on is_cut cut times alone together gain unread_files unread_recipes weight smax size_on balanced moved steps_by size_after legal dist_after challenge first_below choose moves_by moves file_on kinds_in kinds_of scans_from scans ends_from visits gains_when cuts_after cut_at keeps standing gains_after pass_of passes_by most_passes passes last_of figures_of run_figures_of weigh block_check header_of laid_out further_rows read_verdict text digits_in spaced line refusal first_lines size_line sides_line figure_lines report onto padded leaves signed gain_words scan_lines move_lines moves_lines pass_lines trace prints
marked = record {
  m1·check = chain-checked;
  m1·passes = refl;
  m1·gains = refl;
  m1·stored = chain-stored;
  m1·prints = λ m f r p d. prints-whole m chain_bytes chain chain-stored (chain-read m f r p d) (chain-checked m f r p d);
  m1·traces = λ m f r p d. traces-whole m chain_bytes chain chain-stored (chain-read m f r p d) (chain-checked m f r p d);
  m2 = refl;
  m3 = refl;
  m4 = refl;
  m6·kinds = refl;
  m6·visits = refl;
  m6·three = refl;
  m7 = refl;
  m8 = refl;
  m9·reads = λ most room. refl;
  m9·prints = λ most. refl;
  order2·refused = archive-checked;
  order2·window = refl;
}
