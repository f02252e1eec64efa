-- A walk over a mixture: where each word that the hardware reads is that of one tree or that of another, larger one, it reads the ledger of the one
-- or that of the other; and all addresses of a frame that only the larger one has read the same of the two. With one tree it is a walk at rest.
use Rattle.std.specs.Prelude.{◌≡◌, refl, ◌≢◌, ◌⊎◌, List, map}
use Rattle.std.proofs.Math.Path.{ap, sym}
use Rattle.std.proofs.Common.{◌∙◌, subst, inl, inr, ⊎_elim, mod-lt, lt-ltb, le-ltb}
use Rattle.std.proofs.Math.Option
use Rattle.std.proofs.Math.Option.{Option, some, none}
use Prim.Native.Nat.{ℕ, zero, suc, ◌+◌, ◌*◌, ◌/◌, ◌%◌, ◌≤◌, ◌<◌}
use Rattle.std.proofs.Math.Nat.{div-eq_of_lt, lt-div-mul-add}
use native.Mathlib.Omega.{arith}
use Rattle.std.proofs.Math.Decide.{ℕ_discrete, dec_lt, le_ind}
use Rattle.path.specs.Geometry.{Granule, Sane, entries, size_at}
use Rattle.path.specs.Areas.{table_at}
use Rattle.path.specs.Laws.{entries_pos, size_pos, table_first}
use Rattle.model.specs.Answers as answers
use Rattle.model.specs.Answers.{Pool}
use Rattle.model.specs.Ledger.{Ledger}
use Rattle.tree.specs.Region.{anc}
use Rattle.tree.specs.Tree.{Ent, empty, frame, table, table≢empty, table≢frame, empty≢frame, table?, Rendered}
use Rattle.tree.specs.Walk.{chain, halt}
use Rattle.tree.specs.Inv.{Mapping, mapping, Holds, frame_low}
use Rattle.tree.specs.Ledger.{first_none, query_none, query_some}
use Rattle.demand.specs.Shown.{shown, pg, anc_size, cover_lookup, base_of, attrs_of}
use Rattle.demand.specs.Sims.{Sim}
use Rattle.demand.specs.Queries.{area, n, k₀, al, X, root_at}
use Rattle.hardware.specs.Machine.{index_bits, input_end, Translation, Step, fault, hit, next, step_by, on_step, walk, stage2, says_of, told}
use Rattle.hardware.proofs.Fields.{step_frame, step_zero, step_table}
use Rattle.hardware.specs.Trees.{Within, NewZero}

-- pages of one region lie in one region of each greater height
same_above : (K g v w : ℕ) → anc K g w ≡ anc K g v → (h : ℕ) → g ≤ h → anc K h w ≡ anc K h v
same_above K g v w e h l = le_ind (λ (h : ℕ). anc K h w ≡ anc K h v) e (λ h _ q. ap (λ (x : ℕ). x / K) q) h l

-- trees in the tables of a pool that holds a ledger
module _ (G : Granule) (Z : Sane G) {p : Pool} {A : Ledger} (I : Sim G Z p A) where
  abbrev K : ℕ
  K = entries G

  abbrev top : ℕ
  top = p.numbers.levels

  -- where table t stands
  abbrev pub place : ℕ → ℕ
  place t = table_at G (area G Z I) t

  -- what a ledger of the theory says of an address
  abbrev pub tells : List Mapping → ℕ → Option Translation
  tells L a = told (map (shown G Z) L) a

  -- what the hardware gives for an address
  abbrev pub gives : (ℕ → ℕ → ℕ) → ℕ → Option Translation
  gives mem a = stage2 G top (area G Z I).base mem a

  -- the index that the hardware takes from an address
  index_is : (a h : ℕ) → index_bits G a h ≡ anc K h (pg G Z a) % K
  unfolding size_at
  index_is a h = ap (λ (x : ℕ). x % K) (sym (anc_size G Z a h))

  -- the addresses below the space
  in_space : (a : ℕ) → a < input_end G top → anc K top (pg G Z a) ≡ 0
  unfolding size_at
  in_space a l = anc_size G Z a top ∙ div-eq_of_lt (omega arith)

  space_in : (a : ℕ) → anc K top (pg G Z a) ≡ 0 → a < input_end G top
  unfolding size_at
  space_in a e =
      let q : a / size_at G top ≡ 0 = sym (anc_size G Z a top) ∙ e in
      let z : a < 0 * size_at G top + size_at G top = rw (← q) (lt-div-mul-add (size_pos G top)) in
      omega arith

  -- what the word of an entry of height h makes of a walk for address a, c the number of its table if it is one
  abbrev step_of : ℕ → ℕ → Ent → ℕ → Step
  step_of a h empty c = fault
  step_of a h (frame x) c = hit (says_of a (shown G Z (mapping h (anc K h (pg G Z a)) x)))
  step_of a h table c = next (place c)

  -- ---- one tree

  module _ {W T : ℕ → ℕ → ℕ} {S : ℕ → ℕ → Ent} (R : Rendered (X G Z I) W T S) {L : List Mapping} (H : Holds S L) where
    -- a word of the tree
    word_step : (a h r : ℕ) → anc K h (pg G Z a) ≡ r → S (suc h) (r / K) ≡ table
        → step_by G a h (W (T (suc h) (r / K)) (r % K)) ≡ step_of a h (S h r) (T h r)
    word_step a h r e q = ap (step_by G a h) (R.words h r q) ∙ go (S h r) refl
      where
        high : S h r ≡ table → (j : ℕ) → h ≡ j → 1 ≤ h
        high s zero z = absurd (R.leaf r (subst (λ (j : ℕ). S j r ≡ table) z s))
        high s (suc j) z = omega arith

        go : (s : Ent) → S h r ≡ s → step_by G a h ((X G Z I).enc h s (T h r)) ≡ step_of a h s (T h r)
        go empty s = step_zero G a h
        go (frame x) s =
            step_frame Z (R.good h r x s) a
            ∙ ap {B = Step} (λ (y : ℕ). hit (says_of a (answers.mapping (y * size_at G h) (base_of x) (size_at G h) (attrs_of x)))) (sym (anc_size G Z a h))
        go table s = step_table Z (area G Z I) a h (T h r) (al G Z I) (high s h refl) (R.range h r s)

    -- what the ledger says where the walk of an address ends
    module _ (a h : ℕ) (q : S (suc h) (anc K (suc h) (pg G Z a)) ≡ table) where
      tells_empty : S h (anc K h (pg G Z a)) ≡ empty → tells L a ≡ none
      tells_empty s =
          ap (Option.map (says_of a)) (cover_lookup G Z a L ∙ ap (Option.map (shown G Z))
          (query_none R H (halt {p = λ k. T k (anc K k (pg G Z a))} q (inl (λ z. table≢empty z s)) refl (λ k _ _. refl)) s))

      tells_frame : (x : ℕ) → S h (anc K h (pg G Z a)) ≡ frame x
          → tells L a ≡ some (says_of a (shown G Z (mapping h (anc K h (pg G Z a)) x)))
      tells_frame x s =
          ap (Option.map (says_of a)) (cover_lookup G Z a L ∙ ap (Option.map (shown G Z))
          (query_some R H (halt {p = λ k. T k (anc K k (pg G Z a))} q (inl (λ z. table≢frame z s)) refl (λ k _ _. refl)) x s))

    -- it says nothing of an address that none of its frames holds
    tells_none : (a : ℕ) → ((h x : ℕ) → S h (anc K h (pg G Z a)) ≡ frame x → ⊥) → tells L a ≡ none
    tells_none a f =
        ap (Option.map (says_of a)) (cover_lookup G Z a L ∙ ap (Option.map (shown G Z))
        (first_none (λ m. ℕ_discrete (anc K m.h (pg G Z a)) m.r) L (λ m i c. f m.h m.x (ap (S m.h) c ∙ H.live m i))))

    -- a frame lies in the space, so nothing is said past it
    frame_space : (v h x : ℕ) → S h (anc K h v) ≡ frame x → anc K top v ≡ 0
    frame_space v h x s =
        R.only (anc K top v) (table≢empty (chain R v h (λ z. empty≢frame z s) top (frame_low R h (anc K h v) x s) (omega arith)))

    tells_past : (a : ℕ) → (a < input_end G top → ⊥) → tells L a ≡ none
    tells_past a d = tells_none a (λ h x s. d (space_in a (frame_space (pg G Z a) h x s)))

  -- ---- two trees, the first within the second, and memories in which each word is that of the one or that of the other

  -- `mem h` has each word of the tables as the one or the other words have it
  abbrev pub Mixture : (ℕ → ℕ → ℕ) → (ℕ → ℕ → ℕ) → (ℕ → ℕ → ℕ) → Type 0
  Mixture W W' mem =
      (h t i : ℕ) → t < n G Z I → i < K → (mem h (place t + 8 * i) ≡ W t i) ⊎ (mem h (place t + 8 * i) ≡ W' t i)

  module _ {W T W' T' : ℕ → ℕ → ℕ} {S S' : ℕ → ℕ → Ent} {L L' : List Mapping} (R : Rendered (X G Z I) W T S) (H : Holds S L)
      (R' : Rendered (X G Z I) W' T' S') (H' : Holds S' L') (Q : Within T S T' S')
      (fresh : NewZero (X G Z I) W T S T' S') (mem : ℕ → ℕ → ℕ) (mix : Mixture W W' mem) where
    -- a table that only the larger tree has lies where the smaller one has nothing
    nothing_yet : (a h : ℕ) → S' (suc h) (anc K (suc h) (pg G Z a)) ≡ table → S (suc h) (anc K (suc h) (pg G Z a)) ≢ table → tells L a ≡ none
    nothing_yet a h q d = tells_none R H a (λ j x s. go j x s (dec_lt j (suc h)))
      where
        v : ℕ
        v = pg G Z a

        below : suc h ≤ top
        below = R'.bound (suc h) (anc K (suc h) v) (table≢empty q)

        go : (j x : ℕ) → S j (anc K j v) ≡ frame x → Dec (j < suc h) → ⊥
        go j x s (yes l) = d (chain R v j (λ z. empty≢frame z s) (suc h) l below)
        go j x s (no l) = at (ℕ_discrete (suc h) j)
          where
            there : S' j (anc K j v) ≡ frame x
            there = Q.stays j (anc K j v) (λ z. empty≢frame z s) ∙ s

            at : Dec (suc h ≡ j) → ⊥
            at (yes e) = table≢frame (subst (λ (k : ℕ). S' k (anc K k v) ≡ table) e q) there
            at (no e) =
                let b = R'.bound j (anc K j v) (λ z. empty≢frame z there) in
                table≢frame (chain R' v (suc h) (table≢empty q) j (omega arith) b) there

    -- the word of the region of height g around page v is the larger tree's; a frame that stands there is read from its word
    abbrev Whole : ℕ → ℕ → Type 0
    Whole g v = let t = T' (suc g) (anc K (suc g) v) in mem g (place t + 8 * (anc K g v % K)) ≡ W' t (anc K g v % K)

    abbrev pub Read : ℕ → ℕ → Type 0
    Read g v = (x : ℕ) → S' g (anc K g v) ≡ frame x → Whole g v

    -- the region of height g around page v, which is no table
    module _ (g v : ℕ) (flat : S' g (anc K g v) ≢ table) where
      abbrev Inside : ℕ → Type 0
      Inside a = anc K g (pg G Z a) ≡ anc K g v

      -- its addresses all read the smaller tree's ledger, or all the larger one's
      abbrev Either : (ℕ → Option Translation) → Type 0
      Either f = ((a : ℕ) → Inside a → f a ≡ tells L a) ⊎ (((a : ℕ) → Inside a → f a ≡ tells L' a) × Read g v)

      along : (f f' : ℕ → Option Translation) → ((a : ℕ) → Inside a → f a ≡ f' a) → Either f' → Either f
      along f f' e (inl q) = inl (λ a i. e a i ∙ q a i)
      along f f' e (inr q) = inr (λ a i. e a i ∙ q.0 a i, q.1)

      -- one word of the walk; `on` is what is done at the table that it names
      module _ (h : ℕ) (le : g ≤ h) (q : S' (suc h) (anc K (suc h) v) ≡ table) (on : ℕ → ℕ → Option Translation)
          (ih : S' h (anc K h v) ≡ table → Either (λ a. on a (place (T' h (anc K h v))))) where
        abbrev r : ℕ
        r = anc K h v

        abbrev t : ℕ
        t = T' (suc h) (r / K)

        abbrev w : ℕ
        w = mem h (place t + 8 * (r % K))

        -- what the walks make of it
        abbrev made : ℕ → Option Translation
        made a = on_step (step_by G a h w) (on a)

        at : (a : ℕ) → Inside a → anc K h (pg G Z a) ≡ r
        at a i = same_above K g v (pg G Z a) i h le

        at_up : (a : ℕ) → Inside a → anc K (suc h) (pg G Z a) ≡ r / K
        at_up a i = ap (λ (x : ℕ). x / K) (at a i)

        below : h < top
        below = R'.bound (suc h) (r / K) (table≢empty q)

        -- a frame at height g is at none above it
        frame_here : (x : ℕ) → S' g (anc K g v) ≡ frame x → S' h r ≢ table → g ≡ h
        frame_here x s d = go (ℕ_discrete g h)
          where
            go : Dec (g ≡ h) → g ≡ h
            go (yes e) = e
            go (no e) = absurd (d (chain R' v g (λ z. empty≢frame z s) h (omega arith) (omega (arith, below))))

        -- a word of the larger tree
        big : w ≡ W' t (r % K) → Either made
        big e = go (S' h r) refl
          where
            step : (s : Ent) → S' h r ≡ s → (a : ℕ) → Inside a → made a ≡ on_step (step_of a h s (T' h r)) (on a)
            step s u a i =
                ap (λ (z : Step). on_step z (on a))
                (ap (step_by G a h) e ∙ word_step R' H' a h r (at a i) q ∙ ap (λ (s : Ent). step_of a h s (T' h r)) u)

            read : S' h r ≢ table → Read g v
            read d x s = subst (λ (j : ℕ). Whole j v) (sym (frame_here x s d)) e

            there : (a : ℕ) → Inside a → S' (suc h) (anc K (suc h) (pg G Z a)) ≡ table
            there a i = ap (S' (suc h)) (at_up a i) ∙ q

            go : (s : Ent) → S' h r ≡ s → Either made
            go empty u =
                inr (λ a i. step empty u a i ∙ sym (tells_empty R' H' a h (there a i) (ap (S' h) (at a i) ∙ u)), read (λ z. table≢empty z u))
            go (frame x) u =
                inr (λ a i. step (frame x) u a i ∙ sym (tells_frame R' H' a h (there a i) x (ap (S' h) (at a i) ∙ u)), read (λ z. table≢frame z u))
            go table u = along made (λ a. on a (place (T' h r))) (step table u) (ih u)

        -- a word of the smaller tree, where the table is in it
        small : S (suc h) (r / K) ≡ table → w ≡ W t (r % K) → Either made
        small q₀ e = go (S h r) refl
          where
            step : (s : Ent) → S h r ≡ s → (a : ℕ) → Inside a → made a ≡ on_step (step_of a h s (T h r)) (on a)
            step s u a i =
                ap (λ (z : Step). on_step z (on a))
                (ap (step_by G a h) (e ∙ ap (λ (c : ℕ). W c (r % K)) (Q.number (suc h) (r / K) q₀))
                ∙ word_step R H a h r (at a i) q₀ ∙ ap (λ (s : Ent). step_of a h s (T h r)) u)

            there : (a : ℕ) → Inside a → S (suc h) (anc K (suc h) (pg G Z a)) ≡ table
            there a i = ap (S (suc h)) (at_up a i) ∙ q₀

            go : (s : Ent) → S h r ≡ s → Either made
            go empty u = inl (λ a i. step empty u a i ∙ sym (tells_empty R H a h (there a i) (ap (S h) (at a i) ∙ u)))
            go (frame x) u = inl (λ a i. step (frame x) u a i ∙ sym (tells_frame R H a h (there a i) x (ap (S h) (at a i) ∙ u)))
            go table u =
                along made (λ a. on a (place (T' h r))) (λ a i. step table u a i ∙ ap (λ (c : ℕ). on a (place c)) (sym (Q.number h r u)))
                (ih (Q.stays h r (table≢empty u) ∙ u))

        -- and where it is not
        unread : S (suc h) (r / K) ≢ table → w ≡ W t (r % K) → Either made
        unread d e =
            let z : w ≡ 0 = e ∙ fresh (suc h) (r / K) q d (r % K) (mod-lt r (entries_pos G)) in
            inl (λ a i. ap (λ (x : ℕ). on_step (step_by G a h x) (on a)) z
            ∙ sym (nothing_yet a h (ap (S' (suc h)) (at_up a i) ∙ q) (λ s. d (ap (S (suc h)) (sym (at_up a i)) ∙ s))))

        one_word : Either (λ a. on_step (step_by G a h (mem h (place t + 8 * index_bits G a h))) (on a))
        one_word =
            along _ made
            (λ a i. ap (λ (j : ℕ). on_step (step_by G a h (mem h (place t + 8 * j))) (on a)) (index_is a h ∙ ap (λ (x : ℕ). x % K) (at a i)))
            (⊎_elim (λ e. by e (table? (S (suc h) (r / K)))) big (mix h t (r % K) (R'.range (suc h) (r / K) q) (mod-lt r (entries_pos G))))
          where
            by : w ≡ W t (r % K) → Dec (S (suc h) (r / K) ≡ table) → Either made
            by e (yes s) = small s e
            by e (no s) = unread s e

      -- the walk from the table of height h + 1 around v
      follows : (h : ℕ) → g ≤ h → S' (suc h) (anc K (suc h) v) ≡ table
          → Either (λ a. walk G mem a h (place (T' (suc h) (anc K (suc h) v))))
      unfolding walk
      follows zero le q = one_word zero le q (λ a c. none) (λ s. absurd (R'.leaf v s))
      follows (suc h) le q = one_word (suc h) le q (λ a c. walk G mem a h c) (λ s. follows h (lower s (ℕ_discrete g (suc h))) s)
        where
          lower : S' (suc h) (anc K (suc h) v) ≡ table → Dec (g ≡ suc h) → g ≤ h
          lower s (yes e) = absurd (flat (subst (λ (j : ℕ). S' j (anc K j v) ≡ table) (sym e) s))
          lower s (no e) = omega arith

    -- ---- from the root

    abbrev k : ℕ
    k = k₀ G Z I

    -- the root's table, from an address of the space
    abbrev root : ℕ → ℕ
    root v = place (T' (suc k) (anc K (suc k) v))

    root_is : (v : ℕ) → anc K top v ≡ 0 → (S' (suc k) (anc K (suc k) v) ≡ table) × (root v ≡ (area G Z I).base)
    root_is v e =
        let z : anc K (suc k) v ≡ 0 = ap (λ (j : ℕ). anc K j v) (root_at G Z I) ∙ e in
        let s = R'.root in
        let t = R'.root_at in
        let j = root_at G Z I in
        let u : T' (suc k) (anc K (suc k) v) ≡ 0 = cc in
        (cc, rw u (table_first G (area G Z I) 0 I.good.numbers.some_table ∙ omega arith))

    gives_in : (v a : ℕ) → anc K top v ≡ 0 → anc K top (pg G Z a) ≡ anc K top v → gives mem a ≡ walk G mem a k (root v)
    gives_in v a e q = rw (lt-ltb a (input_end G top) (space_in a (q ∙ e)), (root_is v e).1)

    gives_past : (a : ℕ) → (a < input_end G top → ⊥) → gives mem a ≡ none
    gives_past a d = rw (le-ltb a (input_end G top) (omega arith))

    -- each address reads the one ledger or the other
    pub each_address : (a : ℕ) → (gives mem a ≡ tells L a) ⊎ (gives mem a ≡ tells L' a)
    each_address a = go (dec_lt a (input_end G top))
      where
        v : ℕ
        v = pg G Z a

        go : Dec (a < input_end G top) → (gives mem a ≡ tells L a) ⊎ (gives mem a ≡ tells L' a)
        go (yes l) =
            let e = in_space a l in
            ⊎_elim (λ q. inl (gives_in v a e refl ∙ q a refl)) (λ q. inr (gives_in v a e refl ∙ q.0 a refl))
            (follows 0 v (R'.leaf v) k (omega arith) (root_is v e).0)
        go (no d) = inl (gives_past a d ∙ sym (tells_past R H a d))

    -- where the larger tree has one frame more, all read the one ledger, or all the other; and the other only where the frame's word is read
    module _ (g v x : ℕ) (more : S' g (anc K g v) ≡ frame x) (others : (a : ℕ) → anc K g (pg G Z a) ≢ anc K g v → tells L a ≡ tells L' a) where
      space : anc K top v ≡ 0
      space = frame_space R' H' v g x more

      low : g < top
      low = frame_low R' g (anc K g v) x more

      elsewhere : (a : ℕ) → anc K g (pg G Z a) ≢ anc K g v → (gives mem a ≡ tells L a) × (gives mem a ≡ tells L' a)
      elsewhere a d = ⊎_elim (λ e. (e, e ∙ others a d)) (λ e. (e ∙ sym (others a d), e)) (each_address a)

      -- what holds inside the frame, and outside of it, holds of all
      all : (M : List Mapping) → ((a : ℕ) → anc K g (pg G Z a) ≡ anc K g v → walk G mem a k (root v) ≡ tells M a)
          → ((a : ℕ) → anc K g (pg G Z a) ≢ anc K g v → gives mem a ≡ tells M a) → (a : ℕ) → gives mem a ≡ tells M a
      all M f d a = go (ℕ_discrete (anc K g (pg G Z a)) (anc K g v))
        where
          go : Dec (anc K g (pg G Z a) ≡ anc K g v) → gives mem a ≡ tells M a
          go (yes i) = gives_in v a space (same_above K g v (pg G Z a) i top (omega (arith, low))) ∙ f a i
          go (no o) = d a o

      pub all_addresses : ((a : ℕ) → gives mem a ≡ tells L a) ⊎ (((a : ℕ) → gives mem a ≡ tells L' a) × Read g v)
      all_addresses =
          ⊎_elim (λ q. inl (all L q (λ a d. (elsewhere a d).0))) (λ q. inr (all L' q.0 (λ a d. (elsewhere a d).1), q.1))
          (follows g v (λ z. table≢frame z more) k (omega (arith, low, root_at G Z I)) (root_is v space).0)
