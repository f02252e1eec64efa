-- Reading rendered words, and where a walk ends.
-- A walk for page v with target height g goes down from the root. It stops at the first entry that is no table, and at the
-- target. `Ends` says of what a walk answers, a `Stop`, that it is what the tree says. This module has no walk of its own:
-- a walk over real words, which keeps its path in whatever form, is shown to end so by induction on the height, with
-- `extend` for the path that it has come (the heights of a path are those of its tables, the root's is top),
-- `halt` at the entry where it stops and `deeper` where it goes on below a table.
use Rattle.std.specs.Prelude.{◌≡◌, refl, ◌≢◌, ◌⊎◌, ℕ, zero, suc, ◌/◌, ◌%◌, ◌≤◌, ◌<◌}
use Rattle.std.proofs.Common.{ap, sym, ◌∙◌, subst, arith}
use Rattle.std.proofs.Math.Decide.{ℕ_discrete, le_ind}
use Rattle.tree.specs.Region.{anc}
use Rattle.tree.specs.Tree.{Ent, empty, frame, table, table≢empty, Read, read_of, Geo, Rendered}

-- what a traversal or a walk needs of a tree: no more than that its words can be read
pub record Shape (G : Geo) (W T : ℕ → ℕ → ℕ) (S : ℕ → ℕ → Ent) : Type 0 where
  pub bound : (h r : ℕ) → S h r ≢ empty → h ≤ G.top
  pub up : (h r : ℕ) → h < G.top → S h r ≢ empty → S (suc h) (r / G.K) ≡ table
  pub reads : (h r : ℕ) → S (suc h) (r / G.K) ≡ table
      → G.dec h (W (T (suc h) (r / G.K)) (r % G.K)) ≡ read_of (S h r) (T h r)

-- the root, whose entries have height k: where a traversal or a walk begins
pub record Rooted (G : Geo) (T : ℕ → ℕ → ℕ) (S : ℕ → ℕ → Ent) (k : ℕ) : Type 0 where
  pub top : suc k ≡ G.top
  pub stands : S (suc k) 0 ≡ table
  pub number : T (suc k) 0 ≡ 0
  pub only : (r : ℕ) → S (suc k) r ≢ empty → r ≡ 0

-- around a page, what stands at a height has tables at every height above it
pub chain_up : {G : Geo} {W T : ℕ → ℕ → ℕ} {S : ℕ → ℕ → Ent} → Shape G W T S
    → (v a : ℕ) → S a (anc G.K a v) ≢ empty → (b : ℕ) → a < b → b ≤ G.top → S b (anc G.K b v) ≡ table
chain_up {G} {S = S} C v a p b l = le_ind (λ (b : ℕ). b ≤ G.top → S b (anc G.K b v) ≡ table)
    (λ m. C.up a (anc G.K a v) m p)
    (λ b _ f m. C.up b (anc G.K b v) m (table≢empty (f (omega arith)))) b l

module _ {G : Geo} {W T : ℕ → ℕ → ℕ} {S : ℕ → ℕ → Ent} (R : Rendered G W T S) where
  -- a rendered tree has its root
  pub rooted : {k : ℕ} → suc k ≡ G.top → Rooted G T S k
  rooted top = record {
    top = top;
    stands = cc R.root;
    number = cc R.root_at;
    only = λ r p. R.only r (λ z. p (cc));
  }

  -- below the root no table is table 0
  pub nonzero : (h r : ℕ) → h < G.top → S h r ≡ table → zero < T h r
  nonzero h r l p = go (T h r) refl
    where
      go : (t : ℕ) → T h r ≡ t → zero < t
      go zero q = absurd (omega (arith, (R.inj h r G.top 0 p R.root (q ∙ sym R.root_at)).0))
      go (suc t) q = omega arith

  -- the word of an entry, where its table stands, reads as the entry
  pub read_is : (h r : ℕ) → S (suc h) (r / G.K) ≡ table
      → G.dec h (W (T (suc h) (r / G.K)) (r % G.K)) ≡ read_of (S h r) (T h r)
  read_is h r p = ap (G.dec h) (R.words h r p) ∙ go (S h r) refl
    where
      below : h < G.top
      below = R.bound (suc h) (r / G.K) (table≢empty p)

      pos : S h r ≡ table → (k : ℕ) → h ≡ k → zero < h
      pos q zero z = absurd (R.leaf r (ap (λ (k : ℕ). S k r) (sym z) ∙ q))
      pos q (suc k) z = omega arith

      go : (e : Ent) → S h r ≡ e → G.dec h (G.enc h e (T h r)) ≡ read_of e (T h r)
      go empty q = cc (G.enc_empty h (T h r), G.dec_empty h)
      go (frame x) q = G.dec_frame h x (T h r) (R.good h r x q)
      go table q = G.dec_table h (T h r) (pos q h refl) (nonzero h r below q) (R.range h r q)

  -- rendered words can be read
  pub shape : Shape G W T S
  shape = record { bound = R.bound; up = R.up; reads = read_is }

  -- `chain_up` of a rendered tree
  pub chain : (v a : ℕ) → S a (anc G.K a v) ≢ empty → (b : ℕ) → a < b → b ≤ G.top → S b (anc G.K b v) ≡ table
  chain v a p b l = chain_up shape v a p b l

  -- a walk never comes to a table again: a table is none of those above it
  pub unmet : (v h : ℕ) → S h (anc G.K h v) ≡ table → (k : ℕ) → h < k → k ≤ G.top → T k (anc G.K k v) ≢ T h (anc G.K h v)
  unmet v h p k l m e = omega (arith, (R.inj k (anc G.K k v) h (anc G.K h v) (chain v h (table≢empty p) k l m) p e).0)

-- where a walk ended: the height of the entry, the path as the number of its table at each height, what the entry says
pub record Stop : Type 0 where
  pub height : ℕ
  pub path : ℕ → ℕ
  pub says : Read

-- a `Stop` from its parts
abbrev pub stop : ℕ → (ℕ → ℕ) → Read → Stop
stop h p e = record { height = h; path = p; says = e }

-- p names the tables around page v at the heights above h, up to the root's
abbrev pub Along : (G : Geo) → (ℕ → ℕ → ℕ) → ℕ → ℕ → (ℕ → ℕ) → Type 0
Along G T v h p = (k : ℕ) → h < k → k ≤ G.top → p k ≡ T k (anc G.K k v)

-- a path that goes on: one more table is named, those above it are named as before
pub extend : (G : Geo) (T : ℕ → ℕ → ℕ) (v h : ℕ) {p q : ℕ → ℕ} → Along G T v (suc h) p
    → q (suc h) ≡ T (suc h) (anc G.K (suc h) v) → ((k : ℕ) → suc h < k → k ≤ G.top → q k ≡ p k) → Along G T v h q
extend G T v h {q = q} a e f k l m = go (ℕ_discrete k (suc h))
  where
    go : Dec (k ≡ suc h) → q k ≡ T k (anc G.K k v)
    go (yes z) = subst (λ (j : ℕ). q j ≡ T j (anc G.K j v)) (sym z) e
    go (no z) = f k (omega arith) m ∙ a k (omega arith) m

-- a walk for page v with target height g, from the entry of height h down, ended at o
pub record Ends (G : Geo) (T : ℕ → ℕ → ℕ) (S : ℕ → ℕ → Ent) (g v h : ℕ) (o : Stop) : Type 0 where
  -- it went down, and no further than the target
  pub low : o.height ≤ h
  pub target : g ≤ h → g ≤ o.height
  -- the entry's own table stands; the entry is no table, or at the target
  pub parent : S (suc o.height) (anc G.K (suc o.height) v) ≡ table
  pub done : (S o.height (anc G.K o.height v) ≢ table) ⊎ (o.height ≡ g)
  -- its word says what stands there, and the path is that of the tree
  pub says_is : o.says ≡ read_of (S o.height (anc G.K o.height v)) (T o.height (anc G.K o.height v))
  pub path_is : Along G T v o.height o.path

module _ {G : Geo} {T : ℕ → ℕ → ℕ} {S : ℕ → ℕ → Ent} {g v h : ℕ} where
  -- the walk stops at the entry of height h
  pub halt : {p : ℕ → ℕ} {e : Read} → S (suc h) (anc G.K (suc h) v) ≡ table → (S h (anc G.K h v) ≢ table) ⊎ (h ≡ g)
      → e ≡ read_of (S h (anc G.K h v)) (T h (anc G.K h v)) → Along G T v h p → Ends G T S g v h (stop h p e)
  halt q d r a = record { low = omega arith; target = λ l. l; parent = q; done = d; says_is = r; path_is = a }

  -- the walk goes on below the entry of height h + 1, which is not at the target
  pub deeper : {o : Stop} → suc h ≢ g → Ends G T S g v h o → Ends G T S g v (suc h) o
  deeper z E = record {
    low = omega (arith, E.low);
    target = λ l. E.target (omega arith);
    parent = E.parent;
    done = E.done;
    says_is = E.says_is;
    path_is = E.path_is;
  }
