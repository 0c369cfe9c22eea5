use Rattle.std.proofs.Common.{rules, ◌≡◌, length, take}
use native.Mathlib.Omega.{arith}
use mathlib.Core.Path.{sym}
use lib.Seq.{length-take-le}
use Rattle.settled_codes.proofs.narrowed.Goals.{Start}
use Rattle.settled_codes.proofs.narrowed.Goals as goal

front : (s : Start) → 64 ≡ length (take 64 s.args.wide)
front s = let h : length s.args.wide ≡ 256 = search rules in sym (length-take-le 64 s.args.wide (omega arith))

pub slice_bounds-copy_from_slice-end-2 : goal.slice_bounds-copy_from_slice-end-2
slice_bounds-copy_from_slice-end-2 c = front (goal.at.slice_bounds-copy_from_slice-end-2 c).Start

pub copy_from_slice-requires : goal.copy_from_slice-requires
copy_from_slice-requires c = front (goal.at.copy_from_slice-requires c).Start
