-- A pool that holds a ledger, at rest and while single writes take it to another: what the hardware reads, by the trees before and after.
use Rattle.std.specs.Prelude.{◌≡◌, refl, ◌≢◌, ◌⊎◌, Bool, List, [], ◌∷◌, map, ℕ, suc, ◌+◌, ◌*◌, ◌%◌, ◌<◌, length}
use Rattle.std.proofs.Common.{ap, sym, ◌∙◌, inl, inr, ⊎_elim}
use Rattle.std.proofs.Math.Logic.{if_neg, ite}
use Rattle.std.proofs.Math.Option
use Rattle.std.proofs.Math.Option.{Option, some}
use Rattle.std.proofs.Math.Decide.{ℕ_discrete}
use Rattle.path.specs.Geometry.{Granule, Sane, entries}
use Rattle.model.specs.Answers as answers
use Rattle.model.specs.Answers.{Pool}
use Rattle.model.specs.Walk.{slot}
use Rattle.model.specs.Writes.{Write, memory}
use Rattle.model.specs.Ledger.{Ledger}
use Rattle.tree.specs.Region.{anc, Same, same?}
use Rattle.tree.specs.Tree.{Ent, frame, Rendered, Zeros}
use Rattle.tree.specs.Inv.{Mapping, mapping, Holds, without, drop_if}
use Rattle.tree.specs.Ledger.{lookup}
use Rattle.demand.specs.Shown.{shown, pg, cover_lookup}
use Rattle.demand.specs.Memories.{read_at}
use Rattle.model.proofs.LeftLaws.{performed_length}
use Rattle.demand.specs.Sims.{Sim}
use Rattle.demand.specs.Queries.{area, n, X, R}
use Rattle.hardware.specs.Machine.{Translation, says_of, told, Stands, Reads, words_after, visible, AnyOrder, Overtaken}
use Rattle.hardware.proofs.Trees.{within_same, new_zero}
use Rattle.hardware.specs.Trees.{Within, NewZero}
use Rattle.hardware.proofs.Mixed.{place, Mixture, each_address, all_addresses}
use Rattle.hardware.proofs.Plans.{each_visible, between}
use Rattle.hardware.specs.Plans.{Each, Sound}

module _ (G : Granule) (Z : Sane G) where
  abbrev K : ℕ
  K = entries G

  abbrev tells : List Mapping → ℕ → Option Translation
  tells L a = told (map (shown G Z) L) a

  -- ---- what a ledger says of an address outside one mapping is what it says without it

  -- by the mapping that the theory finds
  tells_by : (L M : List Mapping) (a : ℕ) → lookup K (pg G Z a) L ≡ lookup K (pg G Z a) M → tells L a ≡ tells M a
  tells_by L M a e =
      ap (Option.map (says_of a)) (cover_lookup G Z a L ∙ ap (Option.map (shown G Z)) e ∙ sym (cover_lookup G Z a M))

  pub outside_map : (L : List Mapping) (g r x a : ℕ) → anc K g (pg G Z a) ≢ r → tells L a ≡ tells (mapping g r x ∷ L) a
  outside_map L g r x a d =
      tells_by L (mapping g r x ∷ L) a (sym (if_neg (ℕ_discrete (anc K g (pg G Z a)) r) d (some (mapping g r x)) (lookup K (pg G Z a) L)))

  lookup_without : (h r v : ℕ) → anc K h v ≢ r → (L : List Mapping) → lookup K v (without h r L) ≡ lookup K v L
  lookup_without h r v d [] = refl
  lookup_without h r v d (m ∷ L) = go (same? h r m.h m.r) (lookup_without h r v d L)
    where
      go : (s : Dec (Same h r m.h m.r)) → lookup K v (without h r L) ≡ lookup K v L
          → lookup K v (drop_if s m (without h r L)) ≡ ite (ℕ_discrete (anc K m.h v) m.r) (some m) (lookup K v L)
      go (yes s) ih =
          let away : anc K m.h v ≢ m.r = λ c. d (ap (λ (j : ℕ). anc K j v) (sym s.0) ∙ c ∙ s.1) in
          ih ∙ sym (if_neg (ℕ_discrete (anc K m.h v) m.r) away (some m) (lookup K v L))
      go (no s) ih = ap (λ (z : Option Mapping). ite (ℕ_discrete (anc K m.h v) m.r) (some m) z) ih

  pub outside_unmap : (L : List Mapping) (h r a : ℕ) → anc K h (pg G Z a) ≢ r → tells (without h r L) a ≡ tells L a
  outside_unmap L h r a d = tells_by (without h r L) L a (lookup_without h r (pg G Z a) d L)

  -- ---- the pool's words in memory

  module _ {p : Pool} {A : Ledger} (I : Sim G Z p A) where
    abbrev old : List ℕ
    old = p.words

    abbrev live : List answers.Mapping
    live = map (shown G Z) I.L

    -- in a memory that holds words, each word of a table
    pub word_at : (ws : List ℕ) → length ws ≡ length old → (mem : ℕ → ℕ) → Stands G (area G Z I) ws mem
        → (t i : ℕ) → t < n G Z I → i < K → mem (place G Z I t + 8 * i) ≡ read_at G ws t i
    word_at ws k mem S t i l b = S t i l b

    -- at rest, words that render a tree are read as its ledger says
    pub reads_rest : (ws : List ℕ) → length ws ≡ length old → {T : ℕ → ℕ → ℕ} {S : ℕ → ℕ → Ent} {L : List Mapping}
        → Rendered (X G Z I) (read_at G ws) T S → Holds S L
        → (mem : ℕ → ℕ) → Stands G (area G Z I) ws mem → Reads G p.numbers (λ _. mem) (map (shown G Z) L)
    reads_rest ws k R₁ H₁ mem S a =
        ⊎_elim (λ e. e) (λ e. e)
        (each_address G Z I R₁ H₁ R₁ H₁ within_same (λ h r p d. absurd (d p)) (λ _. mem) (λ h t i l b. inl (word_at ws k mem S t i l b)) a)

    pub at_rest : (mem : ℕ → ℕ) → Stands G (area G Z I) old mem → Reads G p.numbers (λ _. mem) live
    at_rest mem S = reads_rest old refl (R G Z I) I.inv.holds mem S

    -- ---- single writes ws, each of a word as it was or as it will be; in the end the words are `new`, of another tree

    module _ (new : List ℕ) {T' : ℕ → ℕ → ℕ} {S' : ℕ → ℕ → Ent} {L' : List Mapping} (R' : Rendered (X G Z I) (read_at G new) T' S')
        (H' : Holds S' L') (ws : List Write) (sound : Each (Sound old new) ws) where
      abbrev live' : List answers.Mapping
      live' = map (shown G Z) L'

      -- memories that hold the words after some of them are a mixture
      mixed : (part : ℕ → List Write) → ((h : ℕ) → Each (Sound old new) (part h)) → (mem : ℕ → ℕ → ℕ)
          → ((h : ℕ) → Stands G (area G Z I) (words_after G p (part h)) (mem h)) → Mixture G Z I (read_at G old) (read_at G new) mem
      mixed part e mem S h t i l b =
          let q = word_at (words_after G p (part h)) (performed_length G (part h) (memory old p.list)) (mem h) (S h) t i l b in
          ⊎_elim (λ z. inl (q ∙ z)) (λ z. inr (q ∙ z)) (between G old new (part h) (e h) (memory old p.list) (λ j. inl refl) (slot G t i))

      mixed_visible : (seen : ℕ → List Bool) (mem : ℕ → ℕ → ℕ)
          → ((h : ℕ) → Stands G (area G Z I) (words_after G p (visible (seen h) ws)) (mem h)) → Mixture G Z I (read_at G old) (read_at G new) mem
      mixed_visible seen mem S = mixed (λ h. visible (seen h) ws) (λ h. each_visible (Sound old new) (seen h) ws sound) mem S

      turned : (mem : ℕ → ℕ → ℕ) → Mixture G Z I (read_at G old) (read_at G new) mem → Mixture G Z I (read_at G new) (read_at G old) mem
      turned mem mix h t i l b = ⊎_elim (λ e. inr e) (λ e. inl e) (mix h t i l b)

      -- the tree grows: map
      module _ (Q : Within I.T I.S T' S') where
        fresh : NewZero (X G Z I) (read_at G old) I.T I.S T' S'
        fresh = new_zero (I.inv.spare tt).zeros R' Q

        pub overtaken_up : Overtaken G p live live' ws
        overtaken_up seen mem S a = each_address G Z I (R G Z I) I.inv.holds R' H' Q fresh mem (mixed_visible seen mem S) a

        -- by one frame
        module _ (g v x : ℕ) (more : S' g (anc K g v) ≡ frame x)
            (others : (a : ℕ) → anc K g (pg G Z a) ≢ anc K g v → told live a ≡ told live' a) where
          -- after some of the writes all read as before, or all as after; and then the frame's word is there
          pub part_up : (xs : List Write) → Each (Sound old new) xs → (mem : ℕ → ℕ) → Stands G (area G Z I) (words_after G p xs) mem
              → Reads G p.numbers (λ _. mem) live
              ⊎ (Reads G p.numbers (λ _. mem) live'
              × (let t = T' (suc g) (anc K (suc g) v) in mem (place G Z I t + 8 * (anc K g v % K)) ≡ read_at G new t (anc K g v % K)))
          part_up xs e mem S =
              ⊎_elim (λ q. inl q) (λ q. inr (q.0, q.1 x more))
              (all_addresses G Z I (R G Z I) I.inv.holds R' H' Q fresh (λ _. mem) (mixed (λ _. xs) (λ _. e) (λ _. mem) (λ _. S)) g v x more others)

          pub any_order_up : AnyOrder G p live live' ws
          any_order_up seen mem S =
              ⊎_elim (λ q. inl q) (λ q. inr q.0) (part_up (visible seen ws) (each_visible (Sound old new) seen ws sound) mem S)

      -- the tree shrinks: unmap and format
      module _ (Q : Within T' S' I.T I.S) (blank : Zeros (X G Z I) (read_at G new) T' S') where
        gone : NewZero (X G Z I) (read_at G new) T' S' I.T I.S
        gone = new_zero blank (R G Z I) Q

        pub overtaken_down : Overtaken G p live live' ws
        overtaken_down seen mem S a =
            ⊎_elim (λ e. inr e) (λ e. inl e)
            (each_address G Z I R' H' (R G Z I) I.inv.holds Q gone mem (turned mem (mixed_visible seen mem S)) a)

        -- by one frame
        module _ (g v x : ℕ) (more : I.S g (anc K g v) ≡ frame x)
            (others : (a : ℕ) → anc K g (pg G Z a) ≢ anc K g v → told live' a ≡ told live a) where
          -- after some of the writes all read as after, or all as before; and then the frame's word is still there
          pub part_down : (xs : List Write) → Each (Sound old new) xs → (mem : ℕ → ℕ) → Stands G (area G Z I) (words_after G p xs) mem
              → Reads G p.numbers (λ _. mem) live'
              ⊎ (Reads G p.numbers (λ _. mem) live
              × (let t = I.T (suc g) (anc K (suc g) v) in mem (place G Z I t + 8 * (anc K g v % K)) ≡ read_at G old t (anc K g v % K)))
          part_down xs e mem S =
              ⊎_elim (λ q. inl q) (λ q. inr (q.0, q.1 x more))
              (all_addresses G Z I R' H' (R G Z I) I.inv.holds Q gone (λ _. mem) (turned (λ _. mem) (mixed (λ _. xs) (λ _. e) (λ _. mem) (λ _. S))) g v x more others)

          pub any_order_down : AnyOrder G p live live' ws
          any_order_down seen mem S =
              ⊎_elim (λ q. inr q) (λ q. inl q.0) (part_down (visible seen ws) (each_visible (Sound old new) seen ws sound) mem S)
