-- Feeding the rehearsal.
--     LineRead, feeds-next      the loop over the lines of a chunk
--     feed-answers, finish-answers      what the calls answer
--     feeds-short, finishes-short      how much they print
-- Assumes nothing.
use mathlib.Core.Path.{◌≡◌, refl, sym, ap, ap₂, ◌∙◌}
use mathlib.Core.List.{List, [], ◌∷◌, ◌++◌}
use Prim.Native.Nat.{ℕ, ◌+◌, ◌-◌, ◌*◌, ◌<◌, ◌≤◌}
use native.Mathlib.Omega.{arith}
use lib.Dec.{eqb}
use lib.ListN.{length, take, drop}
use lib.Seq.{sets}
use Rattle.text_parts.specs.Parts.{part_length}
use Rattle.lists.proofs.Tests.{pick-cases}
use Rattle.rehearsal_lines.specs.declared.Held.{Held}
use Rattle.rehearsal_lines.specs.Held.{line_held, cut, held_of, nothing}
use Rattle.rehearsal_lines.specs.Feeding.{Said, Fed, finish_by}
use Rattle.rehearsal_lines.proofs.Holding.{line-held, held-again}
use Rattle.rehearsal_lines.proofs.Feeding.{FeedRest, FedTo, feed-next, feed-short, finish-none}
use Rattle.std.specs.Prelude.{Option}
use Rattle.rehearsal_commands.specs.declared.Command.{Command}
use Rattle.rehearsal_commands.specs.Command.{line_of}
use Rattle.rehearsal_answers.specs.Answer.{printed_of, printed_in}
use Rattle.rehearsal_answers.proofs.Printing.{printed-room}
use Rattle.rehearsal_offices.specs.World.{World}
use Rattle.rehearsal_offices.specs.declared.Offices.{Offices}
use Rattle.rehearsal.specs.declared.Rehearsal.{Rehearsal}
use Rattle.rehearsal.specs.Lines.{Answered, answer_line, say_line, finish_of}
use Rattle.rehearsal.specs.Feeding.{world_of, feeds, finishes, FedAs}
use Rattle.rehearsal.proofs.Says.{say-short, says-as}

-- the line that ends at `end`, and what it says
pub record LineRead (w₀ : World) (h₀ s out₀ : List ℕ) (w : World) (h out : List ℕ) (at printed end : ℕ) (h' : List ℕ) (line : Option Command) : Type 0 where
  pub inv : FeedRest say_line w₀ h₀ s out₀ w h out at printed
  pub there : end ≡ at + part_length 10 (drop at s)
  pub inside : end < length s
  pub empty : h' ≡ []
  pub read : line ≡ line_of (cut (h ++ take (end - at) (drop at s)))

-- and its answer x
module _ {w₀ : World} {h₀ s out₀ : List ℕ} {w : World} {h out : List ℕ} {at printed end : ℕ} {h' : List ℕ} {line : Option Command}
    (A : LineRead w₀ h₀ s out₀ w h out at printed end h' line) (x : Answered) (e : x ≡ answer_line w line) where
  says : say_line w (cut (h ++ take (end - at) (drop at s))) ≡ record { world = x.world; printed = printed_of x.answer }
  says = says-as w _ line A.read x e

  printed-by : (say_line w (cut (h ++ take (end - at) (drop at s)))).printed ≡ printed_of x.answer
  printed-by = ap (λ (f : Said World). f.printed) says

  -- there is room for it, so that all of it is printed
  pub feeds-next : (out' : List ℕ) (printed' : ℕ) → printed + 65 ≤ length out → printed' ≡ printed + length (printed_in (length out) printed x.answer)
      → out' ≡ sets out printed (printed_in (length out) printed x.answer) → FeedRest say_line w₀ h₀ s out₀ x.world h' out' (end + 1) printed'
  feeds-next out' printed' room ep eo =
      let all : printed_in (length out) printed x.answer ≡ (say_line w (cut (h ++ take (end - at) (drop at s)))).printed =
      printed-room (length out) printed x.answer room ∙ sym printed-by in
      rw A.empty
      (feed-next say_line w₀ h₀ s out₀ w h out at printed A.inv end A.there x.world out' printed' A.inside (sym (ap (λ (f : Said World). f.world) says))
      (ep ∙ ap (λ (b : List ℕ). printed + length b) all) (eo ∙ ap (λ (b : List ℕ). sets out printed b) all) (say-short w (cut (h ++ take (end - at) (drop at s)))))

-- at the end of the chunk, with the line that is left
pub feed-answers : (f : Fed World) (out₀ : List ℕ) (w : World) (line out : List ℕ) (count : ℕ) (held : Held)
    → FedTo f out₀ w (cut line) out count → held ≡ held_of line
    → FedAs f out₀ (record { rehearsal = record { offices = w.offices; held = held }; printed = count }) w.logs w.slots out
feed-answers f out₀ w line out count held x e =
    let h : held ≡ held_of f.held = e ∙ held-again (held_of line) line refl ∙ ap held_of (line-held line ∙ x.line) in
    record {
      answer =
          ap₂ (λ (r : Rehearsal) (n : ℕ). record { rehearsal = r; printed = n })
          (ap₂ (λ (o : Offices) (l : Held). record { offices = o; held = l }) (ap (λ (v : World). v.offices) x.world) h) x.printed;
      logs = ap (λ (v : World). v.logs) x.world;
      slots = ap (λ (v : World). v.slots) x.world;
      output = x.output;
    }

-- at the end of the input, with no line held
pub finish-answers : (w : World) (line out : List ℕ) (held : Held) → length line ≡ 0 → held ≡ nothing
    → FedAs (finish_of w line) out (record { rehearsal = record { offices = w.offices; held = held }; printed = 0 }) w.logs w.slots out
finish-answers w line out held z e = rw (finish-none say_line w line z, e) (record { answer = refl; logs = refl; slots = refl; output = refl })

module _ (r : Rehearsal) (logs slots : List ℕ) where
  pub feeds-short : (bytes : List ℕ) → length (feeds r logs slots bytes).printed ≤ 65 * length bytes
  feeds-short bytes = feed-short say_line 65 say-short (world_of r logs slots) (line_held r.held) bytes

  pub finishes-short : length (finishes r logs slots).printed ≤ 65
  unfolding finish_by
  finishes-short =
      pick-cases (λ (f : Fed World). length f.printed ≤ 65) (eqb (length (line_held r.held)) 0) _ _
      (λ e. omega (arith, feeds-short []))
      (λ e. omega (arith, feeds-short (10 ∷ [])))
