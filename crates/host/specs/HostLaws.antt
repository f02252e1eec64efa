-- Laws of the host's two calls: an answer below 16 is a refusal and no other is, and on every other answer each call undoes the other.
use Rattle.std.specs.Prelude.{ℕ, zero, suc, ◌+◌, ◌%◌, ◌^◌, ◌≤◌, ◌<◌, ◌≡◌, Bool, ◌⊎◌, eqb}
use Rattle.std.proofs.Math.Path.{refl, sym}
use Rattle.std.proofs.Common.{◌∙◌, inl, inr, ⊎_elim, subst, arith}
use Rattle.std.proofs.Math.Bool.{true, false, cond}
use Rattle.std.proofs.Math.Decide.{dec_lt}
use Rattle.std.proofs.Math.Dec.{ltb}
use borrow.Author.Tests.{lt-ltb, le-ltb, eq-eqb, ne_eqb, ltb-false, eqb-true}
use Rattle.path.specs.Geometry.{Granule, Sane, four, sixteen, granule_of, size_at, physical, seek, height_of}
use Rattle.path.specs.Laws.{four_sane, sixteen_sane, granule_either, height_size}
use Rattle.entry.specs.Words.{frame_word, frame_at, Framed, base_in, attrs_in}
use Rattle.entry.specs.Host.{sized_by, FrameSize, host_word, Accepted, meaning_of, host_meaning}
use Rattle.entry.proofs.Laws.{framed_paged, frame_at_back, frame_at_only, frame_or_damaged, frame_word_ge, attrs_lt}
use Rattle.entry.specs.declared.Entry.{Entry}
use Rattle.entry.specs.declared.Entry.TheVariants.{Empty, Table, Frame, Damaged}

-- ---- sizes

pub sized_sixteen : (size : ℕ) → height_of sixteen size ≤ sixteen.large → sized_by size ≡ sixteen
unfolding sized_by
sized_sixteen size l = rw (le-ltb sixteen.large (height_of sixteen size) l)

pub sized_four : (size : ℕ) → sixteen.large < height_of sixteen size → sized_by size ≡ four
unfolding sized_by
sized_four size l = rw (lt-ltb sixteen.large (height_of sixteen size) l)

pub sized_sane : (size : ℕ) → Sane (sized_by size)
unfolding sized_by
sized_sane size = go (ltb sixteen.large (height_of sixteen size))
  where
    go : (t : Bool) → Sane (cond t four sixteen)
    go true = four_sane
    go false = sixteen_sane

-- which sizes of frames a granule has, one height after the other
sixteen_size : (size : ℕ) → height_of sixteen size ≤ sixteen.large → (size ≡ 2 ^ 14) ⊎ (size ≡ 2 ^ 25)
unfolding size_at
sixteen_size size l = go (height_of sixteen size) l (height_size sixteen size l)
  where
    go : (h : ℕ) → h ≤ 1 → size_at sixteen h ≡ size → (size ≡ 2 ^ 14) ⊎ (size ≡ 2 ^ 25)
    go zero m e = inl (sym e)
    go (suc zero) m e = inr (sym e)
    go (suc (suc h)) m e = absurd (omega arith)

four_size : (size : ℕ) → height_of four size ≤ four.large → (size ≡ 2 ^ 12) ⊎ ((size ≡ 2 ^ 21) ⊎ (size ≡ 2 ^ 30))
unfolding size_at
four_size size l = go (height_of four size) l (height_size four size l)
  where
    go : (h : ℕ) → h ≤ 2 → size_at four h ≡ size → (size ≡ 2 ^ 12) ⊎ ((size ≡ 2 ^ 21) ⊎ (size ≡ 2 ^ 30))
    go zero m e = inl (sym e)
    go (suc zero) m e = inr (inl (sym e))
    go (suc (suc zero)) m e = inr (inr (sym e))
    go (suc (suc (suc h))) m e = absurd (omega arith)

-- a size is one of a frame of its granule exactly when it is one of the five
pub size_known : (size : ℕ) → height_of (sized_by size) size ≤ (sized_by size).large → FrameSize size
size_known size l = go (dec_lt sixteen.large (height_of sixteen size))
  where
    go : Dec (sixteen.large < height_of sixteen size) → FrameSize size
    go (yes m) = ⊎_elim inl (λ e. inr (⊎_elim inl (λ f. inr (inl f)) e)) (four_size size (rw (sized_four size m) at l))
    go (no n) = inr (inr (inr (sixteen_size size (omega arith))))

pub known_size : (size : ℕ) → FrameSize size → height_of (sized_by size) size ≤ (sized_by size).large
unfolding sized_by height_of seek size_at
known_size size f = go f
  where
    at : (k : ℕ) → size ≡ k → height_of (sized_by k) k ≤ (sized_by k).large → height_of (sized_by size) size ≤ (sized_by size).large
    at k e l = subst (λ (s : ℕ). height_of (sized_by s) s ≤ (sized_by s).large) (sym e) l

    go : FrameSize size → height_of (sized_by size) size ≤ (sized_by size).large
    go (inl e) = at (2 ^ 12) e (omega arith)
    go (inr (inl e)) = at (2 ^ 21) e (omega arith)
    go (inr (inr (inl e))) = at (2 ^ 30) e (omega arith)
    go (inr (inr (inr (inl e)))) = at (2 ^ 14) e (omega arith)
    go (inr (inr (inr (inr e)))) = at (2 ^ 25) e (omega arith)

-- and whichever of the two granules has frames of a size, it is that size's
pub sized_granule : (number size : ℕ) → height_of (granule_of number) size ≤ (granule_of number).large → sized_by size ≡ granule_of number
unfolding sized_by height_of seek size_at
sized_granule number size = granule_either (λ (G : Granule). height_of G size ≤ G.large → sized_by size ≡ G) (λ l. by_four (four_size size l)) (sized_sixteen size) number
  where
    by_four : (size ≡ 2 ^ 12) ⊎ ((size ≡ 2 ^ 21) ⊎ (size ≡ 2 ^ 30)) → sized_by size ≡ four
    by_four (inl e) = rw e
    by_four (inr (inl e)) = rw e
    by_four (inr (inr e)) = rw e

-- ---- words

-- the refusals, in the order of their tests
pub refused_size : (G : Granule) (b size a : ℕ) → G.large < height_of G size → host_word G b size a ≡ 2
unfolding host_word
refused_size G b size a l = rw (lt-ltb G.large (height_of G size) l)

pub refused_attributes : (G : Granule) (b size a : ℕ) → height_of G size ≤ G.large → 15 < a → host_word G b size a ≡ 3
unfolding host_word
refused_attributes G b size a l m = rw (le-ltb G.large (height_of G size) l, lt-ltb 15 a m)

pub refused_end : (G : Granule) (b size a : ℕ) → height_of G size ≤ G.large → a ≤ 15 → physical < b + size → host_word G b size a ≡ 4
unfolding host_word
refused_end G b size a l m e = rw (le-ltb G.large (height_of G size) l, le-ltb 15 a m, lt-ltb physical (b + size) e)

pub refused_base : (G : Granule) (b size a : ℕ)
    → height_of G size ≤ G.large
    → a ≤ 15
    → b + size ≤ physical
    → (b % size ≡ 0 → ⊥)
    → host_word G b size a ≡ 5
unfolding host_word
refused_base G b size a l m e f =
    rw (le-ltb G.large (height_of G size) l, le-ltb 15 a m, le-ltb physical (b + size) e, ne_eqb (b % size) 0 f)

module _ {G : Granule} {b size a : ℕ} where
  -- an accepted frame may stand at the height of its size
  pub accepted_framed : Accepted G b size a → Framed G (height_of G size) b a
  accepted_framed x =
      let e = height_size G size x.sized in
      record { level = x.sized; few = omega arith; aligned = rw e x.aligned; fits = rw e x.fits }

  -- and a frame that may stand there is accepted
  pub framed_accepted : Framed G (height_of G size) b a → Accepted G b size a
  framed_accepted f =
      let e = height_size G size f.level in
      record { sized = f.level; few = omega arith; fits = rw e at f.fits; aligned = rw e at f.aligned }

  pub accepted_word : Accepted G b size a → host_word G b size a ≡ frame_word b (height_of G size) a
  unfolding host_word
  accepted_word x =
      rw (
        le-ltb G.large (height_of G size) x.sized,
        le-ltb 15 a x.few,
        le-ltb physical (b + size) x.fits,
        eq-eqb (b % size) 0 x.aligned,
      )

  pub accepted_above : Accepted G b size a → 16 ≤ host_word G b size a
  accepted_above x = rw (accepted_word x) (omega (arith, frame_word_ge b (height_of G size) a))

-- every answer that is not below 16 is the word of an accepted frame
pub word_accepted : (G : Granule) (b size a : ℕ) → 16 ≤ host_word G b size a → Accepted G b size a
unfolding host_word
word_accepted G b size a =
    go (ltb G.large (height_of G size)) (ltb 15 a) (ltb physical (b + size)) (eqb (b % size) 0) refl refl refl refl
  where
    go : (x y z t : Bool)
        → ltb G.large (height_of G size) ≡ x
        → ltb 15 a ≡ y
        → ltb physical (b + size) ≡ z
        → eqb (b % size) 0 ≡ t
        → 16 ≤ cond x 2 (cond y 3 (cond z 4 (cond t (frame_word b (height_of G size) a) 5)))
        → Accepted G b size a
    go true y z t p q r e h = absurd (omega arith)
    go false true z t p q r e h = absurd (omega arith)
    go false false true t p q r e h = absurd (omega arith)
    go false false false false p q r e h = absurd (omega arith)
    go false false false true p q r e h =
        record {
          sized = ltb-false G.large (height_of G size) p;
          few = ltb-false 15 a q;
          fits = ltb-false physical (b + size) r;
          aligned = eqb-true (b % size) 0 e;
        }

-- and every other frame is refused
pub refused_below : (G : Granule) (b size a : ℕ) → (Accepted G b size a → ⊥) → host_word G b size a < 16
refused_below G b size a f = go (dec_lt (host_word G b size a) 16)
  where
    go : Dec (host_word G b size a < 16) → host_word G b size a < 16
    go (yes l) = l
    go (no n) = absurd (f (word_accepted G b size a (omega arith)))

-- ---- meanings

pub meaning_refused : (G : Granule) (w size : ℕ) → G.large < height_of G size → host_meaning G w size ≡ 2
unfolding host_meaning
meaning_refused G w size l = rw (lt-ltb G.large (height_of G size) l)

pub meaning_read : (G : Granule) (w size : ℕ)
    → height_of G size ≤ G.large
    → host_meaning G w size ≡ meaning_of (frame_at G (height_of G size) w)
unfolding host_meaning
meaning_read G w size l = rw (le-ltb G.large (height_of G size) l)

pub meaning_lt : (G : Granule) (h w : ℕ) → meaning_of (frame_at G h w) < 2 ^ 64
meaning_lt G h w = ⊎_elim (λ e. rw e (small (base_in w) (attrs_in w) (omega arith) (attrs_lt w))) (λ e. rw e (omega arith)) (frame_or_damaged G h w)
  where
    small : (b a : ℕ) → b < physical → a < 16 → b + 16 + a < 2 ^ 64
    small b a hb ha = omega arith

-- what the meaning of a word at a size rests on: an accepted frame whose word it is
pub record Meant (G : Granule) (w size : ℕ) : Type 0 where
  pub base : ℕ
  pub attributes : ℕ
  pub accepted : Accepted G base size attributes
  pub means : host_meaning G w size ≡ base + 16 + attributes
  pub word : host_word G base size attributes ≡ w

module _ {G : Granule} (S : Sane G) where
  -- the meaning of an accepted frame's word is that frame
  pub word_then_meaning : {b size a : ℕ} → Accepted G b size a → host_meaning G (host_word G b size a) size ≡ b + 16 + a
  word_then_meaning {b} {size} {a} x = rw (accepted_word x, meaning_read G _ size x.sized, frame_at_back S (accepted_framed x))

  -- every answer that is not below 16 is the meaning of an accepted frame's word
  pub meaning_meant : (w size : ℕ) → 16 ≤ host_meaning G w size → Meant G w size
  unfolding host_meaning
  meaning_meant w size = go (ltb G.large (height_of G size)) (frame_at G (height_of G size) w) refl refl
    where
      go : (x : Bool) (e : Entry)
          → ltb G.large (height_of G size) ≡ x
          → frame_at G (height_of G size) w ≡ e
          → 16 ≤ cond x 2 (meaning_of e)
          → Meant G w size
      go true e p q h = absurd (omega arith)
      go false Empty p q h = absurd (omega arith)
      go false (Table c) p q h = absurd (omega arith)
      go false Damaged p q h = absurd (omega arith)
      go false (Frame b a) p q h =
          let (f, e) = frame_at_only S (height_of G size) w q in
          let x = framed_accepted f in
          record { base = b; attributes = a; accepted = x; means = rw (p, q); word = accepted_word x ∙ sym e }

  -- the base and the attributes can be told from the meaning
  pub one_meaning : {size b a c d : ℕ} → Accepted G b size a → Accepted G c size d → b + 16 + a ≡ c + 16 + d → (b ≡ c) × (a ≡ d)
  one_meaning x y e =
      let p = framed_paged S (accepted_framed x) in
      let q = framed_paged S (accepted_framed y) in
      (omega arith, omega arith)

  -- and the word of what a word means is that word
  pub meaning_then_word : (w : ℕ) {b size a : ℕ} → Accepted G b size a → host_meaning G w size ≡ b + 16 + a → host_word G b size a ≡ w
  meaning_then_word w {b} {size} {a} x e = of (meaning_meant w size (omega arith))
    where
      of : Meant G w size → host_word G b size a ≡ w
      of m = let (p, q) = one_meaning x m.accepted (sym e ∙ m.means) in rw (p, q) m.word

  -- a word whose meaning is refused is the word of no accepted frame
  pub refused_word : (w : ℕ) {b size a : ℕ} → host_meaning G w size < 16 → Accepted G b size a → host_word G b size a ≡ w → ⊥
  refused_word w {b} {size} {a} h x e = omega (arith, rw e at (word_then_meaning x))

  -- a word that is no frame's at a size of frames is 8
  pub no_meaning : (w size : ℕ)
      → height_of G size ≤ G.large
      → ((b a : ℕ) → Accepted G b size a → host_word G b size a ≡ w → ⊥)
      → host_meaning G w size ≡ 8
  no_meaning w size l f = meaning_read G w size l ∙ go (frame_at G (height_of G size) w) refl
    where
      go : (e : Entry) → frame_at G (height_of G size) w ≡ e → meaning_of e ≡ 8
      go Empty q = refl
      go (Table c) q = refl
      go Damaged q = refl
      go (Frame b a) q =
          let (r, e) = frame_at_only S (height_of G size) w q in
          let x = framed_accepted r in
          absurd (f b a x (accepted_word x ∙ sym e))

-- the refusals of a meaning are 2 and 8
pub meaning_below : (G : Granule) (w size : ℕ) → host_meaning G w size < 16 → (host_meaning G w size ≡ 2) ⊎ (host_meaning G w size ≡ 8)
unfolding host_meaning
meaning_below G w size = go (ltb G.large (height_of G size)) (frame_at G (height_of G size) w)
  where
    go : (x : Bool) (e : Entry) → cond x 2 (meaning_of e) < 16 → (cond x 2 (meaning_of e) ≡ 2) ⊎ (cond x 2 (meaning_of e) ≡ 8)
    go true e h = inl refl
    go false Empty h = inr refl
    go false (Table c) h = inr refl
    go false Damaged h = inr refl
    go false (Frame b a) h = absurd (omega arith)
