-- Carrying out the writes of a call, one after the other; the index by which an entry on the path is written.
use Prim.Native.Nat.{ℕ, zero, suc, ◌+◌, ◌<◌}
use Rattle.std.specs.Prelude.{◌≡◌, take, drop}
use Rattle.std.proofs.Common.{sym, ◌∙◌, add-one, arith}
use Rattle.std.proofs.Math.Path.{ap}
use mathlib.Core.List.{List, [], ◌∷◌}
use Rattle.path.specs.Geometry.{Granule, Sane, at_level}
use Rattle.path.specs.Paths.{index_at, path_of}
use Rattle.path.specs.Laws.{level_some}
use Rattle.path.specs.PathLaws.{path_of_at}
use Rattle.model.specs.Walk.{at_height}
use Rattle.model.specs.Writes.{Write, store, wipe, give, Memory, memory, perform, perform_all}
use Rattle.plans.specs.Plan.{IsWrite}

-- the writes from i on start with w
pub starts_with : (ws : List Write) (i : ℕ) {w : Write} {more : List Write} → drop i ws ≡ w ∷ more → IsWrite ws i w
starts_with ws i e = ap (take 1) e

-- and go on with the others
pub goes_on : (ws : List Write) (i : ℕ) {w : Write} {more : List Write} → drop i ws ≡ w ∷ more → drop (i + 1) ws ≡ more
goes_on ws i e = rw add-one (go ws i e)
  where
    go : (ws : List Write) (i : ℕ) {w : Write} {more : List Write} → drop i ws ≡ w ∷ more → drop (suc i) ws ≡ more
    go [] zero e = cc
    go [] (suc i) e = cc
    go (x ∷ ws) zero e = cc
    go (x ∷ ws) (suc i) e = go ws i e

module _ (G : Granule) where
  -- after one write more
  next : (ws : List Write) (i : ℕ) {w : Write} (m : Memory) → IsWrite ws i w → perform_all G (take (suc i) ws) m ≡ perform G w (perform_all G (take i ws) m)
  unfolding perform_all
  next [] zero m e = cc
  next [] (suc i) m e = cc
  next (x ∷ ws) zero {w} m e = let same : x ≡ w = cc in ap (λ (y : Write). perform G y m) same
  next (x ∷ ws) (suc i) m e = next ws i (perform G x m) e

  -- what becomes of the words does not depend on the free list
  words_apart : (w : Write) (m n : Memory) → m.words ≡ n.words → (perform G w m).words ≡ (perform G w n).words
  words_apart (store i v) m n e = rw e
  words_apart (wipe t) m n e = rw e
  words_apart (give i t) m n e = e

  module _ (ws : List Write) (i : ℕ) {w : Write} (h : IsWrite ws i w) where
    -- the words after one write more
    pub words_next : (v₀ : List ℕ) {v u : List ℕ} → ((l : List ℕ) → v ≡ (perform_all G (take i ws) (memory v₀ l)).words)
        → ((l : List ℕ) → u ≡ (perform G w (memory v l)).words)
        → (l : List ℕ) → u ≡ (perform_all G (take (i + 1) ws) (memory v₀ l)).words
    words_next v₀ {v} before one l =
        one l
        ∙ words_apart w (memory v l) (perform_all G (take i ws) (memory v₀ l)) (before l)
        ∙ rw add-one (ap (λ (m : Memory). m.words) (sym (next ws i (memory v₀ l) h)))

    -- words and free list after one write more
    pub both_next : (m : Memory) {n o : Memory} → n ≡ perform_all G (take i ws) m → o ≡ perform G w n → o ≡ perform_all G (take (i + 1) ws) m
    both_next m before one = one ∙ ap (perform G w) before ∙ rw add-one (sym (next ws i m h))

-- the index of the path's entry, as the code has it
pub index_known : {G : Granule} → Sane G → (a h : ℕ) {i : ℕ} → h < G.most → i ≡ at_level G h (index_at G a h) → i ≡ at_height (path_of G a) h
index_known {G} S a h l e = e ∙ level_some G l _ ∙ sym (path_of_at G a (omega (arith, S)))
