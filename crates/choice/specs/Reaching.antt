-- What goes before the best so far, by one test of the gain and one of the distance. Assumes nothing.
use Rattle.std.specs.Prelude.{◌≡◌, ℕ, ◌+◌, ◌-◌, ◌*◌, ◌≤◌, Bool, cond, ◌&&◌, List, length, get_or, take, leb, eqb, ℤ, pos, negsuc, ◌+ℤ◌, ◌-ℤ◌, Option, Some, None}
use Rattle.std.specs.Int.Signed.{lt_z, le_z}
use Rattle.choice.specs.declared.window.Window.{Window}
use Rattle.choice.specs.declared.window.Standing.{Standing}
use Rattle.choice.specs.declared.edition1.Best.{Best}
use Rattle.choice.specs.declared.edition1.Bar.{Bar}
use Rattle.choice.specs.Choosing.{dist_in}
use Rattle.choice.specs.Best.{best_is, NextFirst}
use Rattle.choice.specs.Cases.{as_best}

-- there are a side and a gain for each file, and a lock for each at the start of the scratch
abbrev pub ListsFit : Standing → List ℕ → Type 0
ListsFit s scratch = (length s.sides.now ≡ length s.sizes.now) × (length s.gains.now ≡ length s.sizes.now) × (length s.sizes.now ≤ length scratch)

-- where the files begin that may go before the best so far
abbrev pub after : Option Best → ℕ
after None = 0
after (Some b) = b.file + 1

-- a free file stands at its gain, a locked one below every gain
abbrev pub standing_of : ℤ → ℕ → ℤ
standing_of gain lock = gain -ℤ pos (lock * 4294967296)

-- the least that four bytes hold
abbrev pub least_gain : ℤ
least_gain = negsuc 2147483647

abbrev pub bar_is : ℤ → ℕ → Bar
bar_is gain near = record { gain = gain; near = near }

-- the bar that the best so far sets
abbrev pub bar_of : Window → Option Best → Bar
bar_of w None = bar_is least_gain w.span
bar_of w (Some b) = cond (eqb b.dist 0) (bar_is (b.gain +ℤ pos 1) w.span) (bar_is b.gain (b.dist - 1))

-- the most that the distance may be of a file that stands no lower than the bar
abbrev pub far_from : Window → Bar → ℤ → ℕ
far_from w bar stands = cond (lt_z bar.gain stands) w.span bar.near

-- a file stands no lower than the bar, and its distance is no more than it may be
abbrev pub reached : Window → Bar → ℤ → ℕ → Bool
reached w bar stands dist = le_z bar.gain stands && leb dist (far_from w bar stands)

-- the move of file f, if it reaches the bar
abbrev pub reaching : Window → ℕ → Standing → List ℕ → Bar → ℕ → Option Best
reaching w size s scratch bar f =
    let gain = get_or s.gains.now f (pos 0) in
    let dist = dist_in w size s.sizes.now s.sides.now f in
    cond (reached w bar (standing_of gain (get_or scratch f 0)) dist) (Some (best_is f gain dist)) None

-- r is the next that goes before the best so far, none where there is none
abbrev pub NextOf : Window → ℕ → Standing → List ℕ → Option Best → Option Best → Type 0
NextOf w size s scratch best r =
    let n = length s.sizes.now in
    NextFirst w size s.sizes.now s.sides.now (take n scratch) s.gains.now (as_best n best) (after best) (as_best n r)
