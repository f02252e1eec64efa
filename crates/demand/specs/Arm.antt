-- The entry words are such as the tree's theory asks for: the geometry of a pool.
use Rattle.std.specs.Prelude.{◌≡◌, refl, ℕ, zero, ◌+◌, ◌%◌, ◌<◌}
use Rattle.std.proofs.Common.{ap, sym, ◌∙◌, subst, arith}
use Rattle.path.specs.Geometry.{Granule, entries, Sane}
use Rattle.path.specs.Areas.{Area, total, GoodArea}
use Rattle.path.specs.Laws.{entries_pos}
use Rattle.entry.specs.Words.{frame_word, table_word, entry_at, Framed}
use Rattle.entry.proofs.Laws.{entry_zero, empty_only, table_only, frame_only, table_back, frame_back, framed_paged}
use Rattle.entry.specs.declared.Entry.{Entry}
use Rattle.entry.specs.declared.Entry.TheVariants.{Empty, Table, Frame, Damaged}
use Rattle.tree.specs.Tree.{Ent, empty, frame, table, Read, r_empty, r_frame, r_table, r_bad, read_of, Geo}
use Rattle.demand.specs.Shown.{base_of, attrs_of}

-- what a word says, in the theory's terms
abbrev pub read_entry : Entry → Read
read_entry Empty = r_empty
read_entry (Table c) = r_table c
read_entry (Frame b a) = r_frame (b + a)
read_entry Damaged = r_bad

module _ (G : Granule) (area : Area) where
  -- the word of what stands at a region
  abbrev pub word_of : ℕ → Ent → ℕ → ℕ
  word_of h empty c = 0
  word_of h (frame x) c = frame_word (base_of x) h (attrs_of x)
  word_of h table c = table_word G area c

module _ (G : Granule) (Z : Sane G) (area : Area) (top : ℕ) (al : GoodArea G area) where
  abbrev pub Good : ℕ → ℕ → Type 0
  Good h x = Framed G h (base_of x) (attrs_of x)

  -- base and attributes go into one number and come out again
  pub payload_base : (b a : ℕ) → b % 4096 ≡ 0 → a < 16 → base_of (b + a) ≡ b
  payload_base b a p l = omega arith

  pub payload_attrs : (b a : ℕ) → b % 4096 ≡ 0 → a < 16 → attrs_of (b + a) ≡ a
  payload_attrs b a p l = omega arith

  pub enc_dec : (h w c : ℕ) (e : Ent) (o : Entry) → entry_at G area h w ≡ o → read_entry o ≡ read_of e c → w ≡ word_of G area h e c
  enc_dec h w c empty Empty p q = empty_only Z area h w p
  enc_dec h w c empty (Table d) p q = cc
  enc_dec h w c empty (Frame b a) p q = cc
  enc_dec h w c empty Damaged p q = cc
  enc_dec h w c (frame x) Empty p q = cc
  enc_dec h w c (frame x) (Table d) p q = cc
  enc_dec h w c (frame x) (Frame b a) p q =
      let (f, e) = frame_only Z area h w p in
      let s : b + a ≡ x = cc in
      e ∙ ap (λ (z : ℕ). frame_word z h a) (sym (payload_base b a (framed_paged Z f) f.few)) ∙ ap (λ (z : ℕ). frame_word (base_of (b + a)) h z) (sym (payload_attrs b a (framed_paged Z f) f.few)) ∙ ap (λ (z : ℕ). frame_word (base_of z) h (attrs_of z)) s
  enc_dec h w c (frame x) Damaged p q = cc
  enc_dec h w c table Empty p q = cc
  enc_dec h w c table (Table d) p q = let s : d ≡ c = cc in (table_only Z area h w p).3 ∙ ap (table_word G area) s
  enc_dec h w c table (Frame b a) p q = cc
  enc_dec h w c table Damaged p q = cc

  pub dec_good : (h w x : ℕ) (o : Entry) → entry_at G area h w ≡ o → read_entry o ≡ r_frame x → Good h x
  dec_good h w x Empty p q = let z : ◌≡◌ {A = ℕ} 0 1 = cc in absurd (omega arith)
  dec_good h w x (Table d) p q = let z : ◌≡◌ {A = ℕ} 0 1 = cc in absurd (omega arith)
  dec_good h w x (Frame b a) p q =
      let (f, e) = frame_only Z area h w p in
      let s : b + a ≡ x = cc in
      subst (λ (z : ℕ). Framed G h (base_of z) (attrs_of z)) s
      (subst (λ (z : ℕ). Framed G h z (attrs_of (b + a))) (sym (payload_base b a (framed_paged Z f) f.few))
      (subst (λ (z : ℕ). Framed G h b z) (sym (payload_attrs b a (framed_paged Z f) f.few)) f))
  dec_good h w x Damaged p q = let z : ◌≡◌ {A = ℕ} 0 1 = cc in absurd (omega arith)

  pub dec_child : (h w c : ℕ) (o : Entry) → entry_at G area h w ≡ o → read_entry o ≡ r_table c → (zero < h) × (zero < c) × (c < total area)
  dec_child h w c Empty p q = let z : ◌≡◌ {A = ℕ} 0 1 = cc in absurd (omega arith)
  dec_child h w c (Table d) p q = let s : d ≡ c = cc in let (x, y, z, _) = table_only Z area h w p in (x, omega arith, omega arith)
  dec_child h w c (Frame b a) p q = let z : ◌≡◌ {A = ℕ} 0 1 = cc in absurd (omega arith)
  dec_child h w c Damaged p q = let z : ◌≡◌ {A = ℕ} 0 1 = cc in absurd (omega arith)

  -- the geometry of a pool with its tables in an area, with `top` levels
  abbrev pub geo : Geo
  geo = record {
    K = entries G;
    top = top;
    n = total area;
    K-pos = entries_pos G;
    enc = word_of G area;
    dec = λ h w. read_entry (entry_at G area h w);
    Good = Good;
    enc_empty = λ _ _. refl;
    dec_empty = λ h. ap read_entry (entry_zero G area h);
    dec_frame = λ h x c f. ap read_entry (frame_back Z area al f) ∙ ap r_frame (omega arith);
    enc_dec = λ h w c e q. enc_dec h w c e _ refl q;
    dec_good = λ h w x q. dec_good h w x _ refl q;
    dec_child = λ h w c q. dec_child h w c _ refl q;
    dec_table = λ h c a b d. ap read_entry (table_back G area al h c a b d);
  }
