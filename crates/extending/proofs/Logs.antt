-- The undropped entries in the message that are written to the part of a log that is lent. Assumes nothing.
use Prim.Native.Nat.{ℕ, ◌*◌, ◌-◌, ◌≤◌, ◌+◌, ◌<◌}
use mathlib.Core.Bool.{true}
use mathlib.Core.List.{List, ◌++◌, append-nil}
use mathlib.Core.Path.{◌∙◌, ◌≡◌, ap}
use native.Mathlib.Omega.{arith}
use lib.ListN.{drop, drop_of_length-le, length, length-drop, set, take}
use Rattle.std.proofs.Common.{append_assoc}
use lib.Seq.{drop-drop, sets, length-take-le, sets-eq}
use Rattle.protocol.specs.Beginning.{begins}
use Rattle.numbers.specs.Numbers.{run_at}
use Rattle.spelling.specs.Reading.{record_at}
use Rattle.protocol_laws.proofs.Beginning.{begins-true, ⊑-rest}
use Rattle.numbers.proofs.Runs.{run-rest, run_at-length}
use Rattle.numbers.proofs.Steps.{fill_step}

-- stores over all of a list
pub sets-all : (xs vs : List ℕ) → length vs ≡ length xs → sets xs 0 vs ≡ vs
sets-all xs vs e =
    let h : length xs ≤ 0 + length vs = omega arith in sets-eq vs xs 0 (omega arith) ∙ rw (drop_of_length-le xs h) (append-nil vs)

-- the missing entries, stored into the part of the log behind the first that are held
pub extend-stores : (held k : ℕ) (log ys rest : List ℕ) → held ≤ k → k ≤ length log
    → ys ≡ run_at 6 record_at (length (take (k - held) (drop held log))) (drop (6 * held) rest)
    → take held log ++ (ys ++ drop (k - held) (drop held log)) ≡ sets log held (drop held (run_at 6 record_at k rest))
extend-stores held k log ys rest h j e =
    let m : length (take (k - held) (drop held log)) ≡ k - held = length-take-le (k - held) (drop held log) (omega (arith, length-drop held log)) in
    let vs : ys ≡ drop held (run_at 6 record_at k rest) = e ∙ rw (m, run-rest 6 record_at k held rest h) in
    let l : length ys ≡ k - held = ap length e ∙ run_at-length 6 record_at _ (drop (6 * held) rest) ∙ m in
    let d : held + length ys ≡ k = omega arith in
    let t : held + (k - held) ≡ k = omega arith in
    rw (← vs) (rw (sets-eq ys log held (omega arith), d, drop-drop, t, append_assoc))

-- a turn of the loop that writes them
pub fill-turn : (part : List ℕ) (k i at : ℕ) (rest : List ℕ) (v p : ℕ) → i < k → v ≡ record_at (drop at rest) → p ≡ at + 6
    → sets (set part i v) (i + 1) (run_at 6 record_at (k - (i + 1)) (drop p rest)) ≡ sets part i (run_at 6 record_at (k - i) (drop at rest))
fill-turn part k i at rest v p h ev ep = rw (ev, ep) (fill_step 6 record_at part k i at rest h)

-- ---- what the log is once the missing entries are written: the message's log, and the later words as they were

pub extended : (log theirs : List ℕ) (held : ℕ) → held ≤ length theirs → length theirs ≤ length log → begins (take held log) theirs ≡ true
    → sets log held (drop held theirs) ≡ theirs ++ drop (length theirs) log
extended log theirs held h j e =
    let l : length (take held log) ≡ held = length-take-le held log (omega arith) in
    let d : length (drop held theirs) ≡ length theirs - held = length-drop held theirs in
    let s : held + length (drop held theirs) ≡ length theirs = omega arith in
    let q : take held log ++ drop held theirs ≡ theirs = rw l at (⊑-rest (take held log) theirs (begins-true (take held log) theirs e)) in
    sets-eq (drop held theirs) log held (omega arith) ∙ rw s (ap (λ (x : List ℕ). x ++ drop (length theirs) log) q)
