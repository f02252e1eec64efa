-- Single writes: carried out they are what the planned writes do; and after any part of them each word is as before the call or as after it.
use Rattle.std.specs.Prelude.{◌≡◌, ◌⊎◌, Bool, true, false, not, ltb, length, set, replicate}
use Rattle.std.proofs.Math.Path.{refl, ap, sym}
use Rattle.std.proofs.Common.{ap₂, ◌∙◌, subst, take-append-drop, get_or-set_same, get_or-set_other, take-suc-set, take_all}
use Rattle.std.proofs.Math.Logic.{inl, inr, ⊎_elim}
use mathlib.Core.List.{List, [], ◌∷◌, ◌++◌, append_assoc, append-nil}
use Prim.Native.Nat.{ℕ, zero, suc, ◌+◌, ◌-◌, ◌*◌, ◌≤◌, ◌<◌}
use native.Mathlib.Omega.{arith}
use Rattle.std.proofs.Math.Decide.{ℕ_discrete, dec_lt}
use Rattle.std.proofs.Math.ListN.{get_or, take, drop, length-set}
use Rattle.std.proofs.Math.Seq.{set_out, drop-set-lt}
use borrow.Author.Tests.{ltb-true}
use Rattle.laws.specs.Lists.{zeroed, down, among}
use Rattle.laws.specs.ListLaws.{zeroed_more, zeroed_zero, get_d_past, down_suc}
use Rattle.path.specs.Geometry.{Granule, entries}
use Rattle.path.specs.Areas.{Area, total}
use Rattle.model.specs.Walk.{slot}
use Rattle.model.specs.Writes.{Write, store, wipe, give, Memory, memory, perform, perform_all, map_writes, may_take, prune_writes}
use Rattle.model.specs.Adds.{appended}
use Rattle.model.proofs.LeftLaws.{perform_append, perform_length}
use Rattle.model.proofs.LedgerLaws.{and-true}
use Rattle.demand.specs.Memories.{table_ends}
use Rattle.hardware.specs.Machine.{zeros_from, places_from, places_above, single, singles, visible}
use Rattle.hardware.specs.Plans.{Between, Beyond, Clears, Each, FromZero, Grew, Leaves, Sound}

module _ (Q : Write → Type 0) where
  pub each_append : (xs ys : List Write) → Each Q xs → Each Q ys → Each Q (xs ++ ys)
  each_append [] ys a b = b
  each_append (x ∷ xs) ys a b = (a.0, each_append xs ys a.1 b)

  pub each_take : (j : ℕ) (ws : List Write) → Each Q ws → Each Q (take j ws)
  each_take zero ws e = tt
  each_take (suc j) [] e = tt
  each_take (suc j) (w ∷ ws) e = (e.0, each_take j ws e.1)

  pub each_visible : (bs : List Bool) (ws : List Write) → Each Q ws → Each Q (visible bs ws)
  each_visible [] ws e = tt
  each_visible (true ∷ bs) [] e = tt
  each_visible (false ∷ bs) [] e = tt
  each_visible (true ∷ bs) (w ∷ ws) e = (e.0, each_visible bs ws e.1)
  each_visible (false ∷ bs) (w ∷ ws) e = each_visible bs ws e.1

  pub each_zeros : (i k : ℕ) → ((j : ℕ) → i ≤ j → j < i + k → Q (store j 0)) → Each Q (zeros_from i k)
  unfolding zeros_from
  each_zeros i zero f = tt
  each_zeros i (suc k) f = (f i (omega arith) (omega arith), each_zeros (suc i) k (λ j l m. f j (omega arith) (omega arith)))

-- the first j writes are a part that may be visible
pub visible_take : (j : ℕ) (ws : List Write) → visible (replicate j true) ws ≡ take j ws
visible_take zero ws = refl
visible_take (suc j) [] = refl
visible_take (suc j) (w ∷ ws) = ap {B = List Write} (λ (l : List Write). w ∷ l) (visible_take j ws)

-- ---- words

-- what stands at a place after a word is written
set_cases : (ws : List ℕ) (i x j : ℕ) → ((j ≡ i) × (get_or (set ws i x) j 0 ≡ x)) ⊎ (get_or (set ws i x) j 0 ≡ get_or ws j 0)
set_cases ws i x j = go (ℕ_discrete j i) (dec_lt i (length ws))
  where
    go : Dec (j ≡ i) → Dec (i < length ws) → ((j ≡ i) × (get_or (set ws i x) j 0 ≡ x)) ⊎ (get_or (set ws i x) j 0 ≡ get_or ws j 0)
    go (yes e) (yes l) = inl (e, ap (λ (k : ℕ). get_or (set ws i x) k 0) e ∙ get_or-set_same ws i x 0 l)
    go (yes e) (no l) = inr (ap (λ (s : List ℕ). get_or s j 0) (set_out ws i x (omega arith)))
    go (no d) l = inr (get_or-set_other ws i j x 0 d)

clears_leave : (i : ℕ) (xs : List Write) → Each Clears xs → Each (Leaves i 0) xs
clears_leave i [] e = tt
clears_leave i (store j y ∷ xs) e = (λ _. e.0, clears_leave i xs e.1)
clears_leave i (wipe t ∷ xs) e = absurd e.0
clears_leave i (give j t ∷ xs) e = (tt, clears_leave i xs e.1)

pub places_clear : (k i : ℕ) → Each Clears (places_from i k)
unfolding places_from
places_clear zero i = tt
places_clear (suc k) i = (tt, places_clear k (suc i))

pub beyond_leave : (c i x : ℕ) → i < c → (xs : List Write) → Each (Beyond c) xs → Each (Leaves i x) xs
beyond_leave c i x l [] e = tt
beyond_leave c i x l (store j y ∷ xs) e = (λ q. absurd (omega (arith, e.0)), beyond_leave c i x l xs e.1)
beyond_leave c i x l (wipe t ∷ xs) e = absurd e.0
beyond_leave c i x l (give j t ∷ xs) e = (tt, beyond_leave c i x l xs e.1)

pub places_beyond : (c n k i : ℕ) → Each (Beyond c) (places_above n i k)
unfolding places_above
places_beyond c n zero i = tt
places_beyond c n (suc k) i = (tt, places_beyond c n k (suc i))

-- ---- carried out

module _ (G : Granule) where
  pub zeros_carried : (k i : ℕ) (ws l : List ℕ) → i + k ≤ length ws → perform_all G (zeros_from i k) (memory ws l) ≡ memory (zeroed ws i k) l
  unfolding perform_all zeros_from
  zeros_carried zero i ws l b = ap (λ (x : List ℕ). memory x l) (sym (zeroed_zero ws i))
  zeros_carried (suc k) i ws l b =
      zeros_carried k (suc i) (set ws i 0) l (omega (arith, length-set ws i 0)) ∙ ap (λ (x : List ℕ). memory x l) (zeroed_more ws i k b)

  -- the free list anew
  pub places_carried : (k i : ℕ) (ws l : List ℕ) → i + k ≡ length l → perform_all G (places_from i k) (memory ws l) ≡ memory ws (take i l ++ down k)
  unfolding perform_all places_from down
  places_carried zero i ws l e = ap (memory ws) (sym (take_all i l (omega arith)) ∙ sym (append-nil (take i l)))
  places_carried (suc k) i ws l e =
      places_carried k (suc i) ws (set l i k) (omega (arith, length-set l i k))
      ∙ ap (memory ws) (ap (λ (x : List ℕ). x ++ down k) (take-suc-set l i k (omega arith)) ∙ append_assoc (take i l) (k ∷ []) (down k))

  -- and more of it
  pub above_carried : (n k i : ℕ) (ws l : List ℕ) → i + k ≤ length l → perform_all G (places_above n i k) (memory ws l) ≡ memory ws (appended n k i l)
  unfolding perform_all places_above appended
  above_carried n zero i ws l e = let z : i + 0 ≡ i = omega arith in ap (memory ws) (sym (take-append-drop i l) ∙ ap (λ (x : ℕ). take i l ++ drop x l) (sym z))
  above_carried n (suc k) i ws l e =
      above_carried n k (suc i) ws (set l i (n + k)) (omega (arith, length-set l i (n + k)))
      ∙ ap (memory ws) (ap₂ ◌++◌ (take-suc-set l i (n + k) (omega arith)) (ap (λ (x : List ℕ). take k (down (n + k)) ++ x) late)
      ∙ append_assoc (take i l) ((n + k) ∷ []) (take k (down (n + k)) ++ drop (i + suc k) l)
      ∙ ap (λ (x : List ℕ). take i l ++ (x ++ drop (i + suc k) l)) (sym next))
    where
      late : drop (suc i + k) (set l i (n + k)) ≡ drop (i + suc k) l
      late = let s : suc i + k ≡ i + suc k = omega arith in drop-set-lt (suc i + k) l i (n + k) (omega arith) ∙ ap (λ (x : ℕ). drop x l) s

      next : take (suc k) (down (n + suc k)) ≡ (n + k) ∷ take k (down (n + k))
      next = let s : n + suc k ≡ suc (n + k) = omega arith in rw (s, down_suc (n + k))

  -- a table to wipe lies in so many words
  abbrev pub InRange : ℕ → Write → Type 0
  InRange n (store i x) = Unit {0}
  InRange n (wipe t) = slot G t 0 + entries G ≤ n
  InRange n (give i t) = Unit {0}

  -- those that map may take do, and unmap wipes none
  pub map_range : (area : Area) (path list : List ℕ) (g word need t f : ℕ) (seen : List ℕ) → may_take list (total area) seen f need ≡ true
      → Each (InRange (entries G * total area)) (map_writes G area path list g word t f need)
  unfolding map_writes may_take
  map_range area path list g word zero t f seen e = (tt, tt)
  map_range area path list g word (suc need) t f seen e =
      let c = get_or list (f - 1) 0 in
      let (_, e₁) = and-true (ltb 0 c) _ e in
      let (b, e₂) = and-true (ltb c (total area)) _ e₁ in
      let (_, e₃) = and-true (not (among c seen)) _ e₂ in
      let l : c < total area = ltb-true c (total area) b in
      (omega (arith, table_ends (entries G) l), (tt, map_range area path list g word need c (f - 1) (c ∷ seen) e₃))

  pub prune_range : (n : ℕ) (way path : List ℕ) (k h f : ℕ) → Each (InRange n) (prune_writes G way path h f k)
  unfolding prune_writes
  prune_range n way path zero h f = tt
  prune_range n way path (suc k) h f = (tt, (tt, prune_range n way path k (suc h) (suc f)))

  -- single writes do what the planned ones do
  pub singles_carried : (ws : List Write) (m : Memory) → Each (InRange (length m.words)) ws → perform_all G (singles G ws) m ≡ perform_all G ws m
  unfolding perform_all singles
  singles_carried [] m e = refl
  singles_carried (w ∷ ws) m e =
      perform_append G (single G w) (singles G ws) m
      ∙ ap (perform_all G (singles G ws)) (one w e.0)
      ∙ singles_carried ws (perform G w m) (subst (λ (n : ℕ). Each (InRange n) ws) (sym (perform_length G w m)) e.1)
    where
      one : (w : Write) → InRange (length m.words) w → perform_all G (single G w) m ≡ perform G w m
      one (store i x) r = refl
      one (wipe t) r = zeros_carried (entries G) (slot G t 0) m.words m.list r
      one (give i t) r = refl

  -- writes of words as they were or as they will be leave words that are so
  pub between : (old new : List ℕ) (xs : List Write) → Each (Sound old new) xs → (m : Memory) → Between old new m.words
      → Between old new (perform_all G xs m).words
  unfolding perform_all
  between old new [] e m b = b
  between old new (store i x ∷ xs) e m b = between old new xs e.1 (perform G (store i x) m) (λ j. at j (set_cases m.words i x j) (b j))
    where
      at : (j : ℕ) → ((j ≡ i) × (get_or (set m.words i x) j 0 ≡ x)) ⊎ (get_or (set m.words i x) j 0 ≡ get_or m.words j 0)
          → (get_or m.words j 0 ≡ get_or old j 0) ⊎ (get_or m.words j 0 ≡ get_or new j 0)
          → (get_or (set m.words i x) j 0 ≡ get_or old j 0) ⊎ (get_or (set m.words i x) j 0 ≡ get_or new j 0)
      at j (inl (p, q)) r =
          ⊎_elim (λ z. inl (q ∙ z ∙ ap (λ (k : ℕ). get_or old k 0) (sym p))) (λ z. inr (q ∙ z ∙ ap (λ (k : ℕ). get_or new k 0) (sym p))) e.0
      at j (inr q) r = ⊎_elim (λ z. inl (q ∙ z)) (λ z. inr (q ∙ z)) r
  between old new (wipe t ∷ xs) e m b = absurd e.0
  between old new (give i t ∷ xs) e m b = between old new xs e.1 (perform G (give i t) m) b

  -- a word that is left as it is
  pub left : (i x : ℕ) (xs : List Write) → Each (Leaves i x) xs → (m : Memory) → get_or m.words i 0 ≡ x → get_or (perform_all G xs m).words i 0 ≡ x
  unfolding perform_all
  left i x [] e m b = b
  left i x (store j y ∷ xs) e m b =
      left i x xs e.1 (perform G (store j y) m) (⊎_elim (λ (p, q). q ∙ e.0 (sym p)) (λ q. q ∙ b) (set_cases m.words j y i))
  left i x (wipe t ∷ xs) e m b = absurd e.0
  left i x (give j t ∷ xs) e m b = left i x xs e.1 (perform G (give j t) m) b

  -- a word that is cleared is 0 from then on
  pub cleared : (xs : List Write) → Each Clears xs → (i : ℕ) (m : Memory) → get_or (perform_all G xs (perform G (store i 0) m)).words i 0 ≡ 0
  cleared xs e i m = left i 0 xs (clears_leave i xs e) (perform G (store i 0) m) (go (dec_lt i (length m.words)))
    where
      go : Dec (i < length m.words) → get_or (set m.words i 0) i 0 ≡ 0
      go (yes l) = get_or-set_same m.words i 0 0 l
      go (no l) = ap (λ (s : List ℕ). get_or s i 0) (set_out m.words i 0 (omega arith)) ∙ get_d_past m.words i (omega arith)

  -- so writes of 0 are of words as they will be
  pub clears_sound : (old : List ℕ) (xs : List Write) → Each Clears xs → (m : Memory) → Each (Sound old (perform_all G xs m).words) xs
  unfolding perform_all
  clears_sound old [] e m = tt
  clears_sound old (store i x ∷ xs) e m =
      let z = e.0 in
      let q : get_or (perform_all G xs (perform G (store i x) m)).words i 0 ≡ 0 = rw z (cleared xs e.1 i m) in
      (inr (z ∙ sym q), clears_sound old xs e.1 (perform G (store i x) m))
  clears_sound old (wipe t ∷ xs) e m = absurd e.0
  clears_sound old (give i t ∷ xs) e m = (tt, clears_sound old xs e.1 (perform G (give i t) m))

  pub prune_clears : (way path : List ℕ) (k h f : ℕ) → Each Clears (singles G (prune_writes G way path h f k))
  unfolding singles prune_writes
  prune_clears way path zero h f = tt
  prune_clears way path (suc k) h f = (refl, (tt, prune_clears way path k (suc h) (suc f)))

pub grew_on : (a b c : List ℕ) → Grew a b → Grew b c → Grew a c
grew_on a b c f g i = ⊎_elim (λ e. ⊎_elim (λ d. inl (d ∙ e)) (λ d. inr (sym e ∙ d)) (g i)) (λ e. inr e) (f i)

-- a word in between is the first or the last
grew_between : (a b c : List ℕ) → Grew a b → Grew b c → Between a c b
grew_between a b c f g i = ⊎_elim (λ e. inl e) (λ e. ⊎_elim (λ d. inr (sym d)) (λ d. inl (d ∙ sym e)) (g i)) (f i)

-- so a write of a word as it was or as it will be is one over more calls too
pub sound_among : (a b c d : List ℕ) → Grew a b → Grew b c → Grew c d → (xs : List Write) → Each (Sound b c) xs → Each (Sound a d) xs
sound_among a b c d f g h [] e = tt
sound_among a b c d f g h (store i x ∷ xs) e = (
  ⊎_elim
      (λ q. ⊎_elim (λ z. inl (q ∙ z)) (λ z. inr (q ∙ z)) (grew_between a b d f (grew_on b c d g h) i))
      (λ q. ⊎_elim (λ z. inl (q ∙ z)) (λ z. inr (q ∙ z)) (grew_between a c d (grew_on a b c f g) h i))
      e.0,
  sound_among a b c d f g h xs e.1,
)
sound_among a b c d f g h (wipe t ∷ xs) e = absurd e.0
sound_among a b c d f g h (give i t ∷ xs) e = (tt, sound_among a b c d f g h xs e.1)

-- writes of places that were 0 leave what was not 0
pub zero_grew : (G : Granule) (old : List ℕ) (xs : List Write) → Each (FromZero old) xs → (m : Memory) → Grew old m.words → Grew old (perform_all G xs m).words
unfolding perform_all
zero_grew G old [] e m f = f
zero_grew G old (store i x ∷ xs) e m f =
    zero_grew G old xs e.1 (memory (set m.words i x) m.list)
    (λ j. ⊎_elim (λ z. inr (ap (λ (k : ℕ). get_or old k 0) z.0 ∙ e.0)) (λ z. ⊎_elim (λ d. inl (z ∙ d)) (λ d. inr d) (f j)) (set_cases m.words i x j))
zero_grew G old (wipe t ∷ xs) e m f = absurd e.0
zero_grew G old (give i t ∷ xs) e m f = zero_grew G old xs e.1 (memory m.words (set m.list i t)) f
