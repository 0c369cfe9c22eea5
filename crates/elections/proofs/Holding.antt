-- What a record holds beside its log, and the office's state in it.
--     state_of         the state that holds an office
--     Electable       what elections ask of a state; elected_in, the office that they make of it
--     held            the state of a record is the one that holds its office
--     held-by         the office read back from a state and words that hold it
--     words-kept      the words with their own settled log in front
--     held-fine       the office is within the protocol's limits
--     electable-of    an office within the limits makes a state for elections, in words with room
-- Assumes nothing.
use mathlib.Core.Path.{◌≡◌, sym, ap, ◌∙◌}
use mathlib.Core.List.{List, ◌++◌, map}
use Prim.Native.Nat.{ℕ, ◌≤◌}
use native.Mathlib.Omega.{arith}
use lib.ListN.{length, take, drop, length-append, length-map, length-drop, take-append-drop}
use lib.Seq.{length-take-le, take-append_seam}
use Rattle.protocol.specs.Counts.{count_of}
use Rattle.protocol.specs.Office.{Office}
use Rattle.protocol.specs.Elect.{with_elect}
use Rattle.protocol.specs.Limits.{is_empty, length_limit, tail_fine}
use Rattle.lists.proofs.Tests.{all_map, drop-map}
use Rattle.protocol_laws.proofs.Limits as Limits
use Rattle.ballots.specs.Ballots.{ballot_fine, is_no_ballot, tail_of, ballot_of, words_with}
use Rattle.ballots.proofs.Laws as B
use Rattle.summary.specs.Summary.{summary_after}
use Rattle.kept.specs.Kept.{rule_behind}
use Rattle.kept.specs.declared.Kept.{Kept}
use Rattle.elections.specs.Elections.{held_in, Steppable}
use Rattle.elections.specs.declared.State.{State}

-- the state that holds an office, behind dropped entries of which `kept` is kept
abbrev pub state_of : Kept → Office → State
state_of kept o = record { summary = summary_after kept.summary o.log; held = length o.log; ballots = map ballot_of o.tails }

-- what elections ask: every sound record of n offices that keeps this has it
pub record Electable (n : ℕ) (kept : Kept) (s : State) (words : List ℕ) : Type 0 where
  pub limits : Steppable n s words
  pub done : s.summary ≡ summary_after kept.summary (take s.held words)
  pub countable : (k : ℕ) → count_of kept.counts k ≤ length_limit

-- "until no entry wins"
abbrev pub elected_in : Kept → State → List ℕ → Office
elected_in kept s words = with_elect (rule_behind kept) (held_in s words)

-- the office that a state was made to hold
pub held-by : (kept : Kept) (o : Office) (words : List ℕ) → held_in (state_of kept o) (words_with o.log words) ≡ o
held-by kept o words = λ i. record {
  log = take-append_seam o.log (drop (length o.log) words) i;
  tails = B.tails-of o.tails i;
}

pub words-length : (log words : List ℕ) → length log ≤ length words → length (words_with log words) ≡ length words
words-length log words h = rw (length-append, length-drop) (omega arith)

module _ (n : ℕ) (s : State) (words : List ℕ) (S : Steppable n s words) where
  pub log-length : length (take s.held words) ≡ s.held
  log-length = length-take-le s.held words (let m = S.most in let r = S.room in omega arith)

  pub words-kept : words_with (held_in s words).log words ≡ words
  words-kept = ap (λ (k : ℕ). take s.held words ++ drop k words) log-length ∙ take-append-drop s.held words

  pub held-fine : Limits.Fine n (held_in s words)
  held-fine = record {
    eight = length-map s.ballots tail_of ∙ S.eight;
    most = omega (arith, log-length, S.most);
    entries = S.entries;
    tails = rw log-length (all_map (ballot_fine n s.held) (tail_fine n s.held) tail_of (B.tail-fine n s.held) s.ballots S.fine);
    rest = rw (drop-map tail_of n s.ballots) (all_map is_no_ballot is_empty tail_of B.none-empty (drop n s.ballots) S.rest);
  }

pub held : (n : ℕ) (kept : Kept) (s : State) (words : List ℕ) → Electable n kept s words → state_of kept (held_in s words) ≡ s
held n kept s words E =
    let S = E.limits in
    λ i. record { summary = sym E.done i; held = log-length n s words S i; ballots = B.held_all n s.held s.ballots S.fine i }

module _ (n : ℕ) (kept : Kept) (o : Office) (words : List ℕ) (few : n ≤ 8) (F : Limits.Fine n o) (room : 1024 ≤ length words) where
  steppable-of : Steppable n (state_of kept o) (words_with o.log words)
  steppable-of = record {
    room = rw (words-length o.log words (let m = F.most in omega arith)) room;
    few = few;
    most = F.most;
    entries = rw take-append_seam F.entries;
    eight = length-map o.tails ballot_of ∙ F.eight;
    fine = all_map (tail_fine n (length o.log)) (ballot_fine n (length o.log)) ballot_of (B.fine-tail n (length o.log)) o.tails F.tails;
    rest = rw (drop-map ballot_of n o.tails) (all_map is_empty is_no_ballot ballot_of B.empty-none (drop n o.tails) F.rest);
  }

  pub electable-of : ((k : ℕ) → count_of kept.counts k ≤ length_limit) → Electable n kept (state_of kept o) (words_with o.log words)
  electable-of countable = record {
    limits = steppable-of;
    done = ap (summary_after kept.summary) (sym (take-append_seam o.log (drop (length o.log) words)));
    countable = countable;
  }
