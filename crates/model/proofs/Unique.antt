-- Two answers that meet a call's promise are equal: the paper's number and values tell the cases of an answer apart.
use Rattle.std.specs.Prelude.{ℕ, ◌≡◌, List, [], ◌∷◌, get_or, cond, eqb, Bool, true, false, Option, Some, None, Result, Ok, Err, ⊤}
use Rattle.std.proofs.Math.Path.{refl, sym}
use Rattle.std.proofs.Common.{ap, ◌∙◌}
use Rattle.std.proofs.Math.Bool.{true≢false}
use Rattle.laws.specs.ListLaws.{append_one}
use Rattle.path.specs.declared.Setup.{Setup}
use Rattle.path.specs.Numbers.{no_setup}
use Rattle.model.specs.declared.Refusal.{Refusal}
use Rattle.model.specs.declared.Refusal.TheVariants as R
use Rattle.model.specs.declared.Mapped.{Mapped}
use Rattle.model.specs.declared.Unmapped.{Unmapped}
use Rattle.model.specs.declared.RangeUnmapped.{RangeUnmapped}
use Rattle.model.specs.declared.Found.{Found}
use Rattle.model.specs.declared.Counts.{Counts}
use Rattle.model.specs.declared.Excerpt.{Excerpt}
use Rattle.model.specs.Answers.{Mapping, mapping, Answer, answered, refusal, found, accepts, says_refusal, says_next, setup_after, says_format, says_add, says_map, says_unmap, says_unmap_range, says_query, says_audit, says_list, Done, left, format_did, add_did, map_did, unmap_did, unmap_range_did, Listed, list_did}

-- the refusals in the order of their numbers, from 2 on; the others, and any number past them, are Setup
refusal_at : ℕ → List ℕ → Refusal
refusal_at n values =
    cond (eqb n 2) R.Size
    (cond (eqb n 3) R.Attributes
    (cond (eqb n 4) R.Address
    (cond (eqb n 5) R.Alignment
    (cond (eqb n 6) R.Overlap
    (cond (eqb n 7) R.Tables
    (cond (eqb n 8) R.Damage
    (cond (eqb n 9) (R.Hole (get_or values 0 0) (get_or values 1 0))
    (cond (eqb n 10) R.Inside
    (cond (eqb n 11) R.Pool R.Setup)))))))))

refusal_in : Answer → Refusal
refusal_in (answered values) = R.Setup
refusal_in (refusal n values) = refusal_at n values

refusal_back : (r : Refusal) → refusal_in (says_refusal r) ≡ r
unfolding refusal_in refusal_at
refusal_back R.Setup = refl
refusal_back R.Size = refl
refusal_back R.Attributes = refl
refusal_back R.Address = refl
refusal_back R.Alignment = refl
refusal_back R.Overlap = refl
refusal_back R.Tables = refl
refusal_back R.Damage = refl
refusal_back (R.Hole b s) = refl
refusal_back R.Inside = refl
refusal_back R.Pool = refl

pub refusal_unique : (a b : Refusal) → says_refusal a ≡ says_refusal b → a ≡ b
refusal_unique a b e = sym (refusal_back a) ∙ (ap refusal_in e ∙ refusal_back b)

pub empty : Setup → List ℕ
empty s = []

values_in : Answer → List ℕ
values_in (answered values) = values
values_in (refusal k values) = values

first : List ℕ → ℕ
first l = get_or l 0 0

two : List ℕ → ℕ × ℕ
two l = (get_or l 0 0, get_or l 1 0)

four : List ℕ → ℕ × (ℕ × (ℕ × ℕ))
four l = (get_or l 0 0, (get_or l 1 0, (get_or l 2 0, get_or l 3 0)))

pub refuses : (r : Refusal) → accepts (says_refusal r) ≡ false
refuses R.Setup = refl
refuses R.Size = refl
refuses R.Attributes = refl
refuses R.Address = refl
refuses R.Alignment = refl
refuses R.Overlap = refl
refuses R.Tables = refl
refuses R.Damage = refl
refuses (R.Hole b s) = refl
refuses R.Inside = refl
refuses R.Pool = refl

-- no refusal is an answer with values
pub apart : {A : Type 0} (l : List ℕ) (r : Refusal) → answered l ≡ says_refusal r → A
apart l r e = absurd (true≢false (ap accepts e ∙ refuses r))

-- an answer of which only a part is told
pub over : {A B : Type 0} → (A → B) → Result A Refusal → Result B Refusal
over f (Ok x) = Ok (f x)
over f (Err r) = Err r

-- the parts beside the setup
abbrev pub frame_told : Unmapped → ℕ × (ℕ × (ℕ × ℕ))
frame_told u = (u.frame, (u.size, (u.attributes, u.tables)))

abbrev pub range_told : RangeUnmapped → ℕ × ℕ
range_told u = (u.mappings, u.tables)

-- equal answers of any call: refusals are told apart by their numbers, and what is done by its values
module _ {A B : Type 0} (values : A → List ℕ) (f : A → B) (same : (x y : A) → values x ≡ values y → f x ≡ f y) (says : Result A Refusal → Answer)
    (done : (x : A) → says (Ok x) ≡ answered (values x)) (refused : (r : Refusal) → says (Err r) ≡ says_refusal r) where
  unique : (a b : Result A Refusal) → says a ≡ says b → over f a ≡ over f b
  unfolding values_in over
  unique (Ok x) (Ok y) e = ap Ok (same x y (ap values_in (sym (done x) ∙ (e ∙ done y))))
  unique (Ok x) (Err r) e = apart (values x) r (sym (done x) ∙ (e ∙ refused r))
  unique (Err r) (Ok y) e = apart (values y) r (sym (done y) ∙ (sym e ∙ refused r))
  unique (Err r) (Err q) e = ap Err (refusal_unique r q (sym (refused r) ∙ (e ∙ refused q)))

-- what format, the adding call, map and unmap, of a mapping or of a range, answer beside the setup
pub format_unique : (a b : Result Setup Refusal) → says_format a ≡ says_format b → over empty a ≡ over empty b
unfolding empty
format_unique = unique (λ s. []) empty (λ x y e. refl) says_format (λ x. refl) (λ r. refl)

pub add_unique : (a b : Result Setup Refusal) → says_add a ≡ says_add b → over empty a ≡ over empty b
unfolding empty
add_unique = unique (λ s. []) empty (λ x y e. refl) says_add (λ x. refl) (λ r. refl)

pub map_unique : (a b : Result Mapped Refusal) → says_map a ≡ says_map b → over (λ m. m.tables) a ≡ over (λ m. m.tables) b
unfolding first
map_unique = unique (λ m. m.tables ∷ []) (λ m. m.tables) (λ x y e. ap first e) says_map (λ x. refl) (λ r. refl)

pub unmap_unique :
    (a b : Result Unmapped Refusal) → says_unmap a ≡ says_unmap b
    → over frame_told a ≡ over frame_told b
unfolding four
unmap_unique =
    unique (λ u. u.frame ∷ u.size ∷ u.attributes ∷ u.tables ∷ []) frame_told (λ x y e. ap four e) says_unmap (λ x. refl) (λ r. refl)

pub unmap_range_unique :
    (a b : Result RangeUnmapped Refusal) → says_unmap_range a ≡ says_unmap_range b
    → over range_told a ≡ over range_told b
unfolding two
unmap_range_unique = unique (λ u. u.mappings ∷ u.tables ∷ []) range_told (λ x y e. ap two e) says_unmap_range (λ x. refl) (λ r. refl)

-- the values of a mapping tell it
pub found_same : (m k : Mapping) → found m ≡ found k → m ≡ k
found_same m k e =
    let a : m.at ≡ k.at = cc in
    let b : m.frame ≡ k.frame = cc in
    let s : m.size ≡ k.size = cc in
    let t : m.attributes ≡ k.attributes = cc in
    λ i. mapping (a i) (b i) (s i) (t i)

-- what query, the audit and list answer is told whole
pub query_unique : (a b : Result Found Refusal) → says_query a ≡ says_query b → a ≡ b
query_unique (Ok f) (Ok g) e =
    let k : f.base ≡ g.base = cc in
    let l : f.frame ≡ g.frame = cc in
    let m : f.size ≡ g.size = cc in
    let n : f.attributes ≡ g.attributes = cc in
    λ i. Ok (record { base = k i; frame = l i; size = m i; attributes = n i })
query_unique (Ok f) (Err r) e = apart (f.base ∷ f.frame ∷ f.size ∷ f.attributes ∷ []) r e
query_unique (Err r) (Ok g) e = apart (g.base ∷ g.frame ∷ g.size ∷ g.attributes ∷ []) r (sym e)
query_unique (Err r) (Err q) e = ap Err (refusal_unique r q e)

pub audit_unique : (a b : Result Counts Refusal) → says_audit a ≡ says_audit b → a ≡ b
audit_unique (Ok c) (Ok d) e =
    let k : c.tables ≡ d.tables = cc in
    let l : c.mappings ≡ d.mappings = cc in λ i. Ok (record { tables = k i; mappings = l i })
audit_unique (Ok c) (Err r) e = apart (c.tables ∷ c.mappings ∷ []) r e
audit_unique (Err r) (Ok d) e = apart (d.tables ∷ d.mappings ∷ []) r (sym e)
audit_unique (Err r) (Err q) e = ap Err (refusal_unique r q e)

-- list: its answer, whatever stands in the runs
next_values : Excerpt → List ℕ → List ℕ → List ℕ
next_values e p q = values_in (says_next e.written e.next p q)

next_answered : (e : Excerpt) (p q : List ℕ) → says_next e.written e.next p q ≡ answered (next_values e p q)
unfolding next_values values_in
next_answered e p q = go e.next
  where
    go : (o : Option ℕ) → says_next e.written o p q ≡ answered (values_in (says_next e.written o p q))
    go None = refl
    go (Some b) = refl

next_unique : (m n : ℕ) (a b : Option ℕ) (p q r s : List ℕ) → says_next m a p q ≡ says_next n b r s → (m ≡ n) × (a ≡ b)
next_unique m n None None p q r s e = (cc, refl)
next_unique m n None (Some c) p q r s e = (cc, cc)
next_unique m n (Some b) None p q r s e = (cc, cc)
next_unique m n (Some b) (Some c) p q r s e = let k : b ≡ c = cc in (cc, ap Some k)

list_unique : (a b : Result Excerpt Refusal) (p q r s : List ℕ) → says_list a p q ≡ says_list b r s → a ≡ b
list_unique (Ok x) (Ok y) p q r s e =
    let (k, l) = next_unique x.written y.written x.next y.next p q r s e in λ i. Ok (record { written = k i; next = l i })
list_unique (Ok x) (Err r') p q r s e = apart (next_values x p q) r' (sym (next_answered x p q) ∙ e)
list_unique (Err r') (Ok y) p q r s e = apart (next_values y r s) r' (sym (next_answered y r s) ∙ sym e)
list_unique (Err r') (Err q') p q r s e = ap Err (refusal_unique r' q' e)

-- and the two runs
pub listed_unique : (a b : Result Excerpt Refusal) (p q r s : List ℕ) → list_did a p q ≡ list_did b r s → (a ≡ b) × ((p ≡ r) × (q ≡ s))
listed_unique a b p q r s e = (list_unique a b p q r s (ap (λ (l : Listed). l.answer) e), (ap (λ (l : Listed). l.places) e, ap (λ (l : Listed). l.entries) e))

-- Format, the adding call, map and unmap, of a mapping or of a range, answer and change the lent memory: equal promises give equal answers, the setup in them too, and equal
-- memory, run by run.
told :
    {A : Type 0} (says : Result A Refusal → Answer) (setup_in : A → Setup)
    → ((x y : Result A Refusal) (s t : Setup) → says x ≡ says y → setup_after setup_in s x ≡ setup_after setup_in t y → x ≡ y)
    → (x y : Result A Refusal) (s t : Setup) {a b c d l m : List ℕ}
    → left (says x) (setup_after setup_in s x) a b l ≡ left (says y) (setup_after setup_in t y) c d m → (x ≡ y) × ((a ≡ c) × (b ≡ d) × (l ≡ m))
told says setup_in same x y s t {a} {b} {c} {d} e =
    let (p, q) = append_one a b c d (ap (λ (d : Done). d.after.cut) e) (ap (λ (d : Done). d.after.words) e) in (
      same x y s t (ap (λ (d : Done). d.answer) e) (ap (λ (d : Done). d.after.numbers) e),
      (p, q, ap (λ (d : Done). d.after.list) e),
    )

setup_same : (says : Result Setup Refusal → Answer) → ((x : Setup) → says (Ok x) ≡ answered []) → ((r : Refusal) → says (Err r) ≡ says_refusal r)
    → (x y : Result Setup Refusal) (s t : Setup) → says x ≡ says y → setup_after (λ u. u) s x ≡ setup_after (λ u. u) t y → x ≡ y
setup_same says done refused (Ok x) (Ok y) s t e f = ap Ok f
setup_same says done refused (Ok x) (Err r) s t e f = apart [] r (sym (done x) ∙ (e ∙ refused r))
setup_same says done refused (Err r) (Ok y) s t e f = apart [] r (sym (done y) ∙ (sym e ∙ refused r))
setup_same says done refused (Err r) (Err q) s t e f = ap Err (refusal_unique r q (sym (refused r) ∙ (e ∙ refused q)))

map_same : (x y : Result Mapped Refusal) (s t : Setup) → says_map x ≡ says_map y → setup_after (λ m. m.setup) s x ≡ setup_after (λ m. m.setup) t y → x ≡ y
map_same (Ok x) (Ok y) s t e f = let k : x.tables ≡ y.tables = cc in λ i. Ok (record { tables = k i; setup = f i })
map_same (Ok x) (Err r) s t e f = apart (x.tables ∷ []) r e
map_same (Err r) (Ok y) s t e f = apart (y.tables ∷ []) r (sym e)
map_same (Err r) (Err q) s t e f = ap Err (refusal_unique r q e)

unmap_same : (x y : Result Unmapped Refusal) (s t : Setup) → says_unmap x ≡ says_unmap y → setup_after (λ m. m.setup) s x ≡ setup_after (λ m. m.setup) t y → x ≡ y
unmap_same (Ok x) (Ok y) s t e f =
    let a : x.frame ≡ y.frame = cc in
    let b : x.size ≡ y.size = cc in
    let c : x.attributes ≡ y.attributes = cc in
    let d : x.tables ≡ y.tables = cc in λ i. Ok (record { frame = a i; size = b i; attributes = c i; tables = d i; setup = f i })
unmap_same (Ok x) (Err r) s t e f = apart (x.frame ∷ x.size ∷ x.attributes ∷ x.tables ∷ []) r e
unmap_same (Err r) (Ok y) s t e f = apart (y.frame ∷ y.size ∷ y.attributes ∷ y.tables ∷ []) r (sym e)
unmap_same (Err r) (Err q) s t e f = ap Err (refusal_unique r q e)

unmap_range_same :
    (x y : Result RangeUnmapped Refusal) (s t : Setup) → says_unmap_range x ≡ says_unmap_range y
    → setup_after (λ m. m.setup) s x ≡ setup_after (λ m. m.setup) t y → x ≡ y
unmap_range_same (Ok x) (Ok y) s t e f =
    let a : x.mappings ≡ y.mappings = cc in
    let b : x.tables ≡ y.tables = cc in λ i. Ok (record { mappings = a i; tables = b i; setup = f i })
unmap_range_same (Ok x) (Err r) s t e f = apart (x.mappings ∷ x.tables ∷ []) r e
unmap_range_same (Err r) (Ok y) s t e f = apart (y.mappings ∷ y.tables ∷ []) r (sym e)
unmap_range_same (Err r) (Err q) s t e f = ap Err (refusal_unique r q e)

module _ (s t : Setup) (a b c d l m : List ℕ) where
  pub formatted_unique : (x y : Result Setup Refusal) → format_did x a b l ≡ format_did y c d m → (x ≡ y) × ((a ≡ c) × (b ≡ d) × (l ≡ m))
  formatted_unique x y = told says_format (λ u. u) (setup_same says_format (λ u. refl) (λ r. refl)) x y no_setup no_setup

  pub added_unique : (x y : Result Setup Refusal) → add_did s x a b l ≡ add_did t y c d m → (x ≡ y) × ((a ≡ c) × (b ≡ d) × (l ≡ m))
  added_unique x y = told says_add (λ u. u) (setup_same says_add (λ u. refl) (λ r. refl)) x y s t

  pub mapped_unique : (x y : Result Mapped Refusal) → map_did s x a b l ≡ map_did t y c d m → (x ≡ y) × ((a ≡ c) × (b ≡ d) × (l ≡ m))
  mapped_unique x y = told says_map (λ m. m.setup) map_same x y s t

  pub unmapped_unique : (x y : Result Unmapped Refusal) → unmap_did s x a b l ≡ unmap_did t y c d m → (x ≡ y) × ((a ≡ c) × (b ≡ d) × (l ≡ m))
  unmapped_unique x y = told says_unmap (λ m. m.setup) unmap_same x y s t

  pub range_unmapped_unique : (x y : Result RangeUnmapped Refusal) → unmap_range_did s x a b l ≡ unmap_range_did t y c d m → (x ≡ y) × ((a ≡ c) × (b ≡ d) × (l ≡ m))
  range_unmapped_unique x y = told says_unmap_range (λ m. m.setup) unmap_range_same x y s t
