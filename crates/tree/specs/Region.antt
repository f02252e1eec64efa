-- Regions of the address space, as numbers.
-- A region of height 0 is a page: page v holds the addresses from v times the page size. A region of height h + 1 is K
-- regions of height h side by side, one for each entry of a table. So region r of height h lies in region r / K of height
-- h + 1, at index r % K, and no power and no subtraction is needed to go up or down. All other modules speak of heights,
-- regions and pages only; `anc_address` and `page_address` carry what they say over to addresses.
use Rattle.std.specs.Prelude.{◌≡◌, ◌≢◌, ℕ, zero, suc, ◌+◌, ◌*◌, ◌/◌, ◌%◌, ◌^◌, ◌<◌}
use Rattle.std.proofs.Math.Path.{refl}
use Rattle.std.proofs.Common.{ap, sym, ◌∙◌, div-add-mod', mul-div_cancel, mul_assoc, arith, shr-shr, pow-add}
use Rattle.std.proofs.Math.Logic.{ite, if_pos, if_neg}
use Rattle.std.proofs.Math.Decide.{ℕ_discrete}

-- `anc K h v` is the region of height h that holds page v
abbrev pub anc : ℕ → ℕ → ℕ → ℕ
anc K zero v = v
anc K (suc h) v = anc K h v / K

-- `page K h r` is the first page of region r of height h
abbrev pub page : ℕ → ℕ → ℕ → ℕ
page K zero r = r
page K (suc h) r = page K h (r * K)

-- a region holds its first page
pub anc_page : (K h r : ℕ) → zero < K → anc K h (page K h r) ≡ r
anc_page K zero r p = refl
anc_page K (suc h) r p = ap (λ (x : ℕ). x / K) (anc_page K h (r * K) p) ∙ mul-div_cancel r p

-- in addresses, with pages of 2 ^ p and tables of 2 ^ k entries: the region of height h that holds address a
pub anc_address : (k p a h : ℕ) → anc (2 ^ k) h (a / 2 ^ p) ≡ a / 2 ^ (p + k * h)
anc_address k p a zero = ap (λ (x : ℕ). a / 2 ^ x) (omega arith)
anc_address k p a (suc h) = ap (λ (x : ℕ). x / 2 ^ k) (anc_address k p a h) ∙ shr-shr a (p + k * h) k
    ∙ ap (λ (x : ℕ). a / 2 ^ x) (omega arith)

-- in addresses: where region r of height h begins
pub page_address : (k p h r : ℕ) → page (2 ^ k) h r * 2 ^ p ≡ r * 2 ^ (p + k * h)
page_address k p zero r = ap (λ (x : ℕ). r * 2 ^ x) (omega arith)
page_address k p (suc h) r = page_address k p h (r * 2 ^ k) ∙ mul_assoc r (2 ^ k) (2 ^ (p + k * h))
    ∙ ap (λ (x : ℕ). r * x) (sym (pow-add 2 k (p + k * h)) ∙ ap (λ (x : ℕ). 2 ^ x) (omega arith))

-- a region is where its parent and its index say
pub same_place : (K r r' : ℕ) → r' / K ≡ r / K → r' % K ≡ r % K → r' ≡ r
same_place K r r' p q = sym (div-add-mod' r' K) ∙ ap (λ (x : ℕ). x * K + r' % K) p
    ∙ ap (λ (x : ℕ). r / K * K + x) q ∙ div-add-mod' r K

-- (h', r') is the place (h, r)
abbrev pub Same : ℕ → ℕ → ℕ → ℕ → Type 0
Same h r h' r' = (h' ≡ h) × (r' ≡ r)

-- it is or it is not
unfoldable pub same? : (h r h' r' : ℕ) → Dec (Same h r h' r')
same? h r h' r' = both (ℕ_discrete h' h) (ℕ_discrete r' r)
  where
    both : Dec (h' ≡ h) → Dec (r' ≡ r) → Dec (Same h r h' r')
    both (yes p) (yes q) = yes (p, q)
    both (yes p) (no q) = no (λ s. q s.1)
    both (no p) d = no (λ s. p s.0)

module _ {A : Type 0} (f : ℕ → ℕ → A) (h r : ℕ) (x : A) where
  -- a function of two numbers, changed at one place: a tree at a region, the words at a table and an index
  pub upd : ℕ → ℕ → A
  upd h' r' = ite (same? h r h' r') x (f h' r')

  -- at that place it is the new value
  pub upd_at : (h' r' : ℕ) → Same h r h' r' → upd h' r' ≡ x
  unfolding upd
  upd_at h' r' s = if_pos (same? h r h' r') s x (f h' r')

  -- at every other it is as before
  pub upd_other : (h' r' : ℕ) → (Same h r h' r' → ⊥) → upd h' r' ≡ f h' r'
  unfolding upd
  upd_other h' r' d = if_neg (same? h r h' r') d x (f h' r')

module _ (p : ℕ → ℕ) (f t : ℕ) where
  -- a function of one number, changed at one: a free list at a place, a path at a height
  pub put1 : ℕ → ℕ
  put1 i = ite (ℕ_discrete i f) t (p i)

  -- at that number it is the new value
  pub put1_at : put1 f ≡ t
  unfolding put1
  put1_at = if_pos (ℕ_discrete f f) refl t (p f)

  -- at every other it is as before
  pub put1_other : (i : ℕ) → i ≢ f → put1 i ≡ p i
  unfolding put1
  put1_other i d = if_neg (ℕ_discrete i f) d t (p i)
