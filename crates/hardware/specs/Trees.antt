-- What the laws of proofs/Trees.antt speak of.
use Rattle.std.specs.Prelude.{◌≡◌, ◌≢◌}
use Prim.Native.Nat.{ℕ, ◌<◌}
use Rattle.tree.specs.Tree.{Ent, empty, table, Geo}

-- all that stands in the tree S, T stands in S', T', tables with the same numbers
pub record Within (T : ℕ → ℕ → ℕ) (S : ℕ → ℕ → Ent) (T' : ℕ → ℕ → ℕ) (S' : ℕ → ℕ → Ent) : Type 0 where
  pub stays : (h r : ℕ) → S h r ≢ empty → S' h r ≡ S h r
  pub number : (h r : ℕ) → S h r ≡ table → T' h r ≡ T h r

-- a table that only the larger tree has is zero in the words of the smaller one
abbrev pub NewZero : (G : Geo) → (W T : ℕ → ℕ → ℕ) → (ℕ → ℕ → Ent) → (ℕ → ℕ → ℕ) → (ℕ → ℕ → Ent) → Type 0
NewZero G W T S T' S' = (h r : ℕ) → S' h r ≡ table → S h r ≢ table → (i : ℕ) → i < G.K → W (T' h r) i ≡ 0
