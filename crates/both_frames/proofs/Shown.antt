-- What both frames answer, in the order of the numbers: 1, 3, and the last edit in the entries p.
--     shown-past, shown-done       of the entries
--     frame-unsound, frame-shown   of the record
--     stored-code, stored-shown    the code that a sound record holds for a line, and what it says
--     behind-shown                 the last edit in the tail behind it
--     code-unsound, code-past, code-held, held-is, held-refused    the code that the record holds, or why a frame of the line is refused
--     lines-unsound, lines-shown   all lines
--     lines-frames                 "one new frame call answers all 64 lines": each says what the line's settled frame shows
-- Assumes nothing.
use mathlib.Core.Path.{◌≡◌, refl, sym, ap, ◌∙◌}
use mathlib.Core.Bool.{Bool, true, false}
use mathlib.Core.List.{List, ◌++◌}
use Rattle.std.specs.Prelude.{Option, Ok, Err}
use Prim.Native.Nat.{ℕ, ◌<◌, ◌≤◌}
use native.Mathlib.Omega.{arith}
use lib.Dec.{leb}
use lib.ListN.{get_or}
use borrow.Author.Tests.{le-leb, lt-leb, leb-true}
use Rattle.lists.specs.Tests.{pick}
use Rattle.lists.proofs.Tests.{get_d_replicate}
use Rattle.protocol.specs.Frames.{edit_after}
use Rattle.protocol.specs.Codes.{cell, of_cell, no_codes}
use Rattle.protocol_laws.proofs.Frames.{edit-append}
use Rattle.protocol_laws.proofs.Codes.{cell-back, codes_at}
use Rattle.summary.specs.declared.Summary.{Summary}
use Rattle.frame.specs.Soundness.{Sound, sound_b}
use Rattle.frame.specs.State.{held_by}
use Rattle.both_frames.specs.Frames.{kept_edit, code_held, frame_of, shown_in, settled_frame_of, all_lines_of}
use Rattle.frame.specs.declared.Record.{Record}
use Rattle.refusals.specs.declared.Refusal.{Refusal}
use Rattle.refusals.specs.declared.Refusal.TheVariants.{Unsound, NoEntry}
use Rattle.refusals.specs.Refusals.{number_of}
use Rattle.shown_edits.specs.Shown.{stored_edit}
use Rattle.shown_edits.proofs.Stored.{cell-said}
use Rattle.both_frames.specs.Framed.{Framed, refused_frame}
use Rattle.both_frames.specs.declared.Lines.{Lines}
use Rattle.frame.proofs.Sound.{sound}

module _ (line : ℕ) (before : Option ℕ) (p : List ℕ) where
  pub shown-past : 63 < line → refused_frame 3 ≡ shown_in line before p
  unfolding shown_in pick
  shown-past l = rw (lt-leb line 63 l)

  pub shown-done : line ≤ 63 → (edit : Option ℕ) → edit ≡ edit_after line before p → ◌≡◌ {A = Framed} (record { number = 0; edit = edit }) (shown_in line before p)
  unfolding shown_in pick
  shown-done l edit e = rw (le-leb line 63 l) (λ i. record { number = 0; edit = e i })

module _ (r : Record) (words : List ℕ) where
  pub frame-unsound : (line : ℕ) (p : List ℕ) → sound_b r words ≡ false → refused_frame 1 ≡ frame_of r words line p
  unfolding frame_of pick
  frame-unsound line p e = rw e

  pub frame-shown : (line : ℕ) (p : List ℕ) → sound_b r words ≡ true → shown_in line (kept_edit r line) p ≡ frame_of r words line p
  unfolding frame_of pick
  frame-shown line p e = rw e

-- ── the stored codes ──
pub stored-code : (r : Record) (words : List ℕ) → Sound r words → (line : ℕ) → line ≤ 63 → get_or r.summary.codes line 0 ≡ cell (edit_after line (kept_edit r line) (held_by r words).log)
stored-code r words S line h = ap (λ (x : Summary). get_or x.codes line 0) S.done ∙ codes_at r.kept.summary.codes (held_by r words).log line (omega (arith, S.kept.lines))

pub stored-shown : (r : Record) (words : List ℕ) → Sound r words → (line : ℕ) → line ≤ 63
    → stored_edit (get_or r.summary.codes line 0) ≡ edit_after line (kept_edit r line) (held_by r words).log
stored-shown r words S line h = cell-said (get_or r.summary.codes line 0) (edit_after line (kept_edit r line) (held_by r words).log) (stored-code r words S line h)

pub behind-shown : (line : ℕ) (before : Option ℕ) (base last : ℕ) (x t : List ℕ) → base ≡ cell (edit_after line before x) → last ≡ cell (edit_after line (of_cell base) t)
    → stored_edit last ≡ edit_after line before (x ++ t)
behind-shown line before base last x t eb el =
    cell-said last (edit_after line (of_cell base) t) el ∙
    ap (λ (o : Option ℕ). edit_after line o t) (ap of_cell eb ∙ cell-back (edit_after line before x)) ∙ sym (edit-append line before x t)

-- ── the code that the record holds, or why the frame is refused ──
module _ (r : Record) (words : List ℕ) (line : ℕ) where
  pub code-unsound : sound_b r words ≡ false → Err Unsound ≡ code_held r words line
  unfolding pick
  code-unsound e = rw e

  pub code-past : sound_b r words ≡ true → 63 < line → Err NoEntry ≡ code_held r words line
  unfolding pick
  code-past e l = rw (e, lt-leb line 63 l)

  pub code-held : sound_b r words ≡ true → line ≤ 63 → Ok (get_or r.summary.codes line 0) ≡ code_held r words line
  unfolding pick
  code-held e l = rw (e, le-leb line 63 l)

  pub held-is : (code : ℕ) → code_held r words line ≡ Ok code → (sound_b r words ≡ true) × ((line ≤ 63) × (code ≡ get_or r.summary.codes line 0))
  unfolding pick
  held-is code e = go (sound_b r words) (leb line 63) refl refl e
    where
      go : (a b : Bool) → sound_b r words ≡ a → leb line 63 ≡ b → pick a (pick b (Ok (get_or r.summary.codes line 0)) (Err NoEntry)) (Err Unsound) ≡ Ok code
          → (sound_b r words ≡ true) × ((line ≤ 63) × (code ≡ get_or r.summary.codes line 0))
      go true true p q h = (p, (leb-true line 63 q, cc))
      go true false p q h = absurd (cc)
      go false b p q h = absurd (cc)

  pub held-refused : (why : Refusal) → code_held r words line ≡ Err why → (p : List ℕ) → refused_frame (number_of why) ≡ frame_of r words line p
  unfolding pick frame_of shown_in
  held-refused why e p = go (sound_b r words) (leb line 63) refl refl e
    where
      F : Bool → Bool → Framed
      F a b = pick a (pick b (record { number = 0; edit = edit_after line (kept_edit r line) p }) (refused_frame 3)) (refused_frame 1)

      go : (a b : Bool) → sound_b r words ≡ a → leb line 63 ≡ b → pick a (pick b (Ok (get_or r.summary.codes line 0)) (Err NoEntry)) (Err Unsound) ≡ Err why
          → refused_frame (number_of why) ≡ F a b
      go true true s q h = absurd (cc)
      go true false s q h = let e : why ≡ NoEntry = cc in ap (λ (x : Refusal). refused_frame (number_of x)) e
      go false b s q h = let e : why ≡ Unsound = cc in ap (λ (x : Refusal). refused_frame (number_of x)) e

-- ── all lines ──
pub lines-unsound : (r : Record) (words : List ℕ) → sound_b r words ≡ false → ◌≡◌ {A = Lines} (record { number = 1; codes = no_codes }) (all_lines_of r words)
unfolding all_lines_of pick
lines-unsound r words e = rw e

pub lines-shown : (r : Record) (words : List ℕ) → sound_b r words ≡ true → Sound r words → ◌≡◌ {A = Lines} (record { number = 0; codes = r.summary.codes }) (all_lines_of r words)
unfolding all_lines_of pick
lines-shown r words e S = rw e (λ i. record { number = 0; codes = (S.done i).codes })

pub lines-frames : (r : Record) (words : List ℕ) (line : ℕ) → line ≤ 63
    → ◌≡◌ {A = Framed} (record { number = (all_lines_of r words).number; edit = stored_edit (get_or (all_lines_of r words).codes line 0) }) (settled_frame_of r words line)
lines-frames r words line h = go (sound_b r words) refl
  where
    shown : Lines → Framed
    shown x = record { number = x.number; edit = stored_edit (get_or x.codes line 0) }

    go : (t : Bool) → sound_b r words ≡ t → shown (all_lines_of r words) ≡ settled_frame_of r words line
    go true e =
        let S = sound r words e in
        ap shown (sym (lines-shown r words e S)) ∙ shown-done line (kept_edit r line) (held_by r words).log h _ (stored-shown r words S line h) ∙ frame-shown r words line _ e
    go false e = ap shown (sym (lines-unsound r words e)) ∙ (λ i. record { number = 1; edit = stored_edit (get_d_replicate 64 0 line i) }) ∙ frame-unsound r words line _ e
