-- Feeding by bytes, by lines and in pieces.
--     feed-append      two pieces are fed as their bytes together
--     feed-line, feed-rest      a whole line at the front; no whole line
--     finish-none, finish-line      the end of the input
--     feed-short      how much is printed
--     FeedRest, feed-begins, feed-next, feed-ends, FedTo      the loop over the lines: what is left, fed from here on, gives what all gives
-- Assumes nothing.
use mathlib.Core.Path.{◌≡◌, refl, sym, ap, ◌∙◌}
use mathlib.Core.Bool.{Bool, true, false}
use mathlib.Core.List.{List, [], ◌∷◌, ◌++◌, append_assoc, append-nil}
use Prim.Native.Nat.{ℕ, suc, ◌+◌, ◌-◌, ◌*◌, ◌<◌, ◌≤◌, zero-le}
use native.Mathlib.Nat.{le_of_suc-le-suc, not-suc-le-zero, zero-add, mul-suc}
use native.Mathlib.Omega.{arith}
use lib.Dec.{eqb}
use lib.ListN.{length, take, drop, length-append, length-take, length-drop}
use lib.Seq.{sets, take_all, drop-drop}
use borrow.Author.Tests.{ne_eqb}
use Rattle.lists.specs.Tests.{pick}
use Rattle.lists.proofs.Tests.{pick-cases}
use Rattle.lists.proofs.Stores.{Left, left-all, left-next, left-none}
use Rattle.text_parts.specs.Parts.{part_length}
use Rattle.rehearsal_lines.specs.Held.{cut}
use Rattle.rehearsal_lines.proofs.Holding.{cut-more}
use Rattle.rehearsal_lines.specs.Feeding.{Said, Fed, said_then, feed_by, finish_by}

cut-one : (held : List ℕ) (b : ℕ) (t : List ℕ) → cut (cut (held ++ (b ∷ [])) ++ t) ≡ cut (held ++ (b ∷ t))
cut-one held b t = cut-more (held ++ (b ∷ [])) t ∙ ap cut (append_assoc held (b ∷ []) t)

-- what is known after feeding: the world, the held line and the count of printed bytes, and the output, with those bytes in front and the
-- others as they were
pub record FedTo {W : Type 0} (f : Fed W) (first : List ℕ) (w : W) (held out : List ℕ) (count : ℕ) : Type 0 where
  pub world : w ≡ f.world
  pub line : held ≡ f.held
  pub printed : count ≡ length f.printed
  pub output : out ≡ sets first 0 f.printed

module _ {W : Type 0} (say : W → List ℕ → Said W) where
  -- a piece and then another
  abbrev pub fed_then : Fed W → List ℕ → Fed W
  fed_then f b = record { world = (feed_by say f.world f.held b).world; held = (feed_by say f.world f.held b).held; printed = f.printed ++ (feed_by say f.world f.held b).printed }

  append-by : (w : W) (held : List ℕ) (b : ℕ) (x y : List ℕ) (t : Bool) → eqb b 10 ≡ t
      → ((v : W) (h : List ℕ) → feed_by say v h (x ++ y) ≡ fed_then (feed_by say v h x) y)
      → feed_by say w held (b ∷ (x ++ y)) ≡ fed_then (feed_by say w held (b ∷ x)) y
  unfolding feed_by pick
  append-by w held b x y true e h = rw (e, h (say w held).world [], append_assoc)
  append-by w held b x y false e h = rw (e, h w (cut (held ++ (b ∷ []))))

  pub feed-append : (w : W) (held x y : List ℕ) → feed_by say w held (x ++ y) ≡ fed_then (feed_by say w held x) y
  unfolding feed_by
  feed-append w held [] y = refl
  feed-append w held (b ∷ x) y = append-by w held b x y (eqb b 10) refl (λ v h. feed-append v h x y)

  line-by : (w : W) (held : List ℕ) (b : ℕ) (s : List ℕ) (t : Bool) → eqb b 10 ≡ t → length held ≤ 129 →
      ((h : List ℕ) → length h ≤ 129 → part_length 10 s < length s
      → feed_by say w h s ≡ said_then (say w (cut (h ++ take (part_length 10 s) s)))
      (feed_by say (say w (cut (h ++ take (part_length 10 s) s))).world [] (drop (suc (part_length 10 s)) s))) →
      part_length 10 (b ∷ s) < length (b ∷ s) →
      feed_by say w held (b ∷ s) ≡ said_then (say w (cut (held ++ take (part_length 10 (b ∷ s)) (b ∷ s))))
      (feed_by say (say w (cut (held ++ take (part_length 10 (b ∷ s)) (b ∷ s)))).world [] (drop (suc (part_length 10 (b ∷ s))) (b ∷ s)))
  unfolding feed_by part_length pick
  line-by w held b s true e l h k =
      let c : cut (held ++ []) ≡ held = rw append-nil (take_all 129 held l) in
      rw (e, c)
  line-by w held b s false e l h k =
      let q : part_length 10 s < length s = le_of_suc-le-suc (rw e at k) in
      rw (e, h (cut (held ++ (b ∷ []))) (rw length-take (omega arith)) q, cut-one)

  pub feed-line : (w : W) (held s : List ℕ) → length held ≤ 129 → part_length 10 s < length s
      → feed_by say w held s ≡ said_then (say w (cut (held ++ take (part_length 10 s) s))) (feed_by say (say w (cut (held ++ take (part_length 10 s) s))).world [] (drop (suc (part_length 10 s)) s))
  unfolding part_length
  feed-line w held [] l k = absurd (omega arith)
  feed-line w held (b ∷ s) l k = line-by w held b s (eqb b 10) refl l (λ h n q. feed-line w h s n q) k

  rest-by : (w : W) (held : List ℕ) (b : ℕ) (s : List ℕ) (t : Bool) → eqb b 10 ≡ t →
      ((h : List ℕ) → length h ≤ 129 → length s ≤ part_length 10 s → feed_by say w h s ≡ record { world = w; held = cut (h ++ s); printed = [] }) →
      length (b ∷ s) ≤ part_length 10 (b ∷ s) → feed_by say w held (b ∷ s) ≡ record { world = w; held = cut (held ++ (b ∷ s)); printed = [] }
  unfolding feed_by part_length pick
  rest-by w held b s true e h k = absurd (not-suc-le-zero (rw e at k))
  rest-by w held b s false e h k =
      let q : length s ≤ part_length 10 s = le_of_suc-le-suc (rw e at k) in
      rw (e, h (cut (held ++ (b ∷ []))) (rw length-take (omega arith)) q, cut-one)

  pub feed-rest : (w : W) (held s : List ℕ) → length held ≤ 129 → length s ≤ part_length 10 s → feed_by say w held s ≡ record { world = w; held = cut (held ++ s); printed = [] }
  unfolding feed_by
  feed-rest w held [] l k =
      let c : cut (held ++ []) ≡ held = rw append-nil (take_all 129 held l) in
      rw c
  feed-rest w held (b ∷ s) l k = rest-by w held b s (eqb b 10) refl (λ h n q. feed-rest w h s n q) k

  -- the loop: w₀, h₀ and out₀ are those of its beginning, s the bytes that are fed
  pub record FeedRest (w₀ : W) (h₀ s out₀ : List ℕ) (w : W) (h out : List ℕ) (at printed : ℕ) : Type 0 where
    pub within : at ≤ length s
    pub short : length h ≤ 129
    pub room : printed ≤ 65 * at
    pub world : (feed_by say w h (drop at s)).world ≡ (feed_by say w₀ h₀ s).world
    pub held : (feed_by say w h (drop at s)).held ≡ (feed_by say w₀ h₀ s).held
    pub left : Left out₀ 0 (feed_by say w₀ h₀ s).printed out printed (feed_by say w h (drop at s)).printed

  pub feed-begins : (w : W) (h s out : List ℕ) → length h ≤ 129 → FeedRest w h s out w h out 0 0
  feed-begins w h s out l =
      record { within = zero-le; short = l; room = zero-le; world = refl; held = refl; left = left-all out 0 (feed_by say w h s).printed }

  module _ (w₀ : W) (h₀ s out₀ : List ℕ) (w : W) (h out : List ℕ) (at printed : ℕ) (inv : FeedRest w₀ h₀ s out₀ w h out at printed) (end : ℕ) (there : end ≡ at + part_length 10 (drop at s)) where
    -- the line that ends at `end`
    abbrev pub line_to : List ℕ
    line_to = cut (h ++ take (end - at) (drop at s))

    line-here : end < length s → feed_by say w h (drop at s) ≡ said_then (say w line_to) (feed_by say (say w line_to).world [] (drop (end + 1) s))
    line-here l =
        let k : end - at ≡ part_length 10 (drop at s) = omega arith in
        let d : length (drop at s) ≡ length s - at = length-drop at s in
        let n : at + suc (part_length 10 (drop at s)) ≡ end + 1 = omega arith in
        rw (k, feed-line w h (drop at s) inv.short (omega (arith, inv.within)), drop-drop, n)

    pub feed-next : (w' : W) (out' : List ℕ) (printed' : ℕ) → end < length s → w' ≡ (say w line_to).world → printed' ≡ printed + length (say w line_to).printed
        → out' ≡ sets out printed (say w line_to).printed → length (say w line_to).printed ≤ 65 → FeedRest w₀ h₀ s out₀ w' [] out' (end + 1) printed'
    feed-next w' out' printed' l ew ep eo short =
        let x = line-here l in
        record {
          within = omega arith;
          short = zero-le;
          room = omega (arith, inv.room);
          world = rw ew (sym (ap (λ (f : Fed W). f.world) x) ∙ inv.world);
          held = rw ew (sym (ap (λ (f : Fed W). f.held) x) ∙ inv.held);
          left = rw ew (left-next inv.left (say w line_to).printed (ap (λ (f : Fed W). f.printed) x) ep eo);
        }

    pub feed-ends : length s ≤ end → (end ≤ length s) → FedTo (feed_by say w₀ h₀ s) out₀ w line_to out printed
    feed-ends l m =
        let d : length (drop at s) ≡ length s - at = length-drop at s in
        let k : end - at ≡ length (drop at s) = omega (arith, inv.within) in
        let a : take (end - at) (drop at s) ≡ drop at s = take_all (end - at) (drop at s) (omega arith) in
        let x : feed_by say w h (drop at s) ≡ record { world = w; held = line_to; printed = [] } = rw a (feed-rest w h (drop at s) inv.short (omega (arith, inv.within))) in
        let none = left-none inv.left (ap (λ (f : Fed W). f.printed) x) in
        record {
          world = sym (ap (λ (f : Fed W). f.world) x) ∙ inv.world;
          line = sym (ap (λ (f : Fed W). f.held) x) ∙ inv.held;
          printed = none.0 ∙ zero-add (length (feed_by say w₀ h₀ s).printed);
          output = none.1;
        }

  -- the end of the input, with nothing held and with a line
  pub finish-none : (w : W) (held : List ℕ) → length held ≡ 0 → finish_by say w held ≡ record { world = w; held = []; printed = [] }
  unfolding finish_by feed_by pick
  finish-none w [] e = refl
  finish-none w (b ∷ held) e = absurd (omega arith)

  pub finish-line : (w : W) (held : List ℕ) → (length held ≡ 0 → ⊥) → feed_by say w held (10 ∷ []) ≡ finish_by say w held
  unfolding finish_by pick
  finish-line w held e = rw (ne_eqb (length held) 0 e)

  -- what is printed is short where each answer is
  module _ (most : ℕ) (short : (w : W) (line : List ℕ) → length (say w line).printed ≤ most) where
    pub feed-short : (w : W) (held s : List ℕ) → length (feed_by say w held s).printed ≤ most * length s
    unfolding feed_by
    feed-short w held [] = zero-le
    feed-short w held (b ∷ s) =
        pick-cases (λ (f : Fed W). length f.printed ≤ most * suc (length s)) (eqb b 10) _ _
        (λ e. simp length-append (omega (arith, mul-suc most (length s), short w held, feed-short (say w held).world [] s)))
        (λ e. omega (arith, mul-suc most (length s), feed-short w (cut (held ++ (b ∷ []))) s))
