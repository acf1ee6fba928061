-- What each record says by itself, with the kinds of what it names.
use Rattle.std.proofs.Common.{◌≡◌, ℕ, ◌+◌, zero, suc, List, [], ◌∷◌, Option, Some, None, inl, inr, refl, sym, ◌∙◌, ap, subst, length, arith, Bool, true, false, ◌&&◌, ◌||◌, eqb}
use Rattle.std.specs.Prelude.{bytes_eq, codes}
use Rattle.std.proofs.lemmas.Bool.{and_parts, or_cases, cond-true, cond-false, false≢true, eqb-true}
use Rattle.std.proofs.lemmas.Option.{same_Some, none-some}
use Rattle.std.proofs.lemmas.Slice.Eq.{bytes_eq-Decides}
use Rattle.std.specs.List.{slice_get}
use Rattle.std.specs.Option.{option_map_or}
use Rattle.muck_laws.proofs.Lists.{no_items}
use Rattle.muck_laws.proofs.Truths.{parts5, parts6}
use Rattle.muck_model.specs.declared.dbref.Dbref.{Dbref}
use Rattle.muck_model.specs.declared.dbref.Kind.{Kind}
use Rattle.muck_model.specs.declared.dbref.Kind.TheVariants.{Thing, Player, Garbage}
use Rattle.muck_model.proofs.Dbrefs.{eq_same}
use Rattle.muck_codec.specs.declared.stored.Stored.{Stored}
use Rattle.spec_live.specs.Objects.{dbref_of, index_of, nothing, home, same, is_exit, is_player, is_garbage, garbage, kind_in}
use Rattle.spec_live.specs.Setting.{may_link, may_live}
use Rattle.spec_live.specs.Consistent.{HasOwner, HasLink, HasHome, IsTied}
use Rattle.spec_live.proofs.Checks.{index_only}
use Rattle.spec_live.proofs.KindLaws.{only_garbage, only_exit}
use Rattle.muck_store.specs.Forms.{stored_object, loaded}
use Rattle.muck_store.specs.Whole.{stored_kind, leads_to, has_chains, has_owner, has_place, record_has_link, home_for, is_blank_record, agrees_with_records, all_tied}
use Rattle.muck_store.proofs.Loaded.{kind_loaded}

-- the number behind a dbref passes
pub record Leads (test : ℕ → Bool) (d : Dbref) : Type 0 where
  pub number : ℕ
  pub is : d ≡ dbref_of number
  pub holds : test number ≡ true

leads_by : (test : ℕ → Bool) (d : Dbref) (o : Option ℕ) → index_of d ≡ o → option_map_or test o false ≡ true → Leads test d
leads_by test d None e h = absurd (false≢true h)
leads_by test d (Some n) e h = record { number = n; is = index_only d n e; holds = h }

pub leads : (test : ℕ → Bool) (d : Dbref) → leads_to test d ≡ true → Leads test d
leads test d h = leads_by test d (index_of d) refl h

-- Each record.

pub record TiedAt (os : List Stored) (k : ℕ) (s : Stored) : Type 0 where
  pub number : same s.dbref (dbref_of k) ≡ true
  pub tied : agrees_with_records os k s ≡ true

pub tied_from : (os : List Stored) (k j n : ℕ) (rest : List Stored) (s : Stored) → k + j ≡ n → all_tied os k rest ≡ true → slice_get rest j ≡ Some s → TiedAt os n s
unfolding all_tied
tied_from os k j n [] s e h at = absurd (none-some s at)
tied_from os k zero n (x ∷ xs) s e h at =
    let both = and_parts (same x.dbref (dbref_of k) && agrees_with_records os k x) (all_tied os (suc k) xs) h in
    let each = and_parts (same x.dbref (dbref_of k)) (agrees_with_records os k x) both.0 in
    let here : TiedAt os k x = record { number = each.0; tied = each.1 } in
    let k_is : k ≡ n = omega arith in
    let P : Stored → Type 0 = λ z. TiedAt os n z in
    let Q : ℕ → Type 0 = λ z. TiedAt os z x in
    subst P (same_Some x s at) (subst Q k_is here)
tied_from os k (suc j) n (x ∷ xs) s e h at =
    let both = and_parts (same x.dbref (dbref_of k) && agrees_with_records os k x) (all_tied os (suc k) xs) h in
    tied_from os (suc k) j n xs s (omega arith) both.1 at

-- One that isn't garbage.

pub record AliveTied (os : List Stored) (k : ℕ) (s : Stored) : Type 0 where
  pub owner : has_owner os s ≡ true
  pub place : has_place os k s ≡ true
  pub link : record_has_link os s ≡ true
  pub home : home_for s.kind os s ≡ true
  pub chains : has_chains os s ≡ true

pub alive_tied : (os : List Stored) (k : ℕ) (s : Stored) → TiedAt os k s → is_garbage s.kind ≡ false → AliveTied os k s
alive_tied os k s t alive =
    let all : (has_owner os s && has_place os k s && record_has_link os s && home_for s.kind os s && has_chains os s) ≡ true =
    sym (cond-false (is_garbage s.kind) (is_blank_record s) (has_owner os s && has_place os k s && record_has_link os s && home_for s.kind os s && has_chains os s) alive) ∙ t.tied in
    let p = parts5 (has_owner os s) (has_place os k s) (record_has_link os s) (home_for s.kind os s) (has_chains os s) all in
    record { owner = p.0; place = p.1; link = p.2; home = p.3; chains = p.4 }

owner_tied : (os : List Stored) (s : Stored) → has_owner os s ≡ true → HasOwner (loaded os) (stored_object s)
owner_tied os s h =
    let l : Leads (λ n. is_player (stored_kind os n)) s.owner = leads (λ n. is_player (stored_kind os n)) s.owner h in
    (l.number, l.is, ap (λ z. is_player z) (kind_loaded os l.number) ∙ l.holds)

link_tied : (os : List Stored) (s : Stored) → record_has_link os s ≡ true → HasLink (loaded os) (stored_object s)
link_tied os s h =
    let none : Bool = same s.link nothing in
    let homely : Bool = is_exit s.kind && same s.link home in
    elim (or_cases (none || homely) (leads_to (λ n. may_link s.kind (stored_kind os n)) s.link) h) [
      | inl q ↦ elim (or_cases none homely q) [
        | inl a ↦ inl (eq_same s.link nothing a)
        | inr b ↦ let k = and_parts (is_exit s.kind) (same s.link home) b in inr (inl (only_exit s.kind k.0, eq_same s.link home k.1))
      ]
      | inr q ↦
          let l : Leads (λ n. may_link s.kind (stored_kind os n)) s.link = leads (λ n. may_link s.kind (stored_kind os n)) s.link q in
          inr (inr (l.number, l.is, ap (λ z. may_link s.kind z) (kind_loaded os l.number) ∙ l.holds))
    ]

lives_tied : (os : List Stored) (s : Stored) (k : Kind) → s.kind ≡ k → leads_to (λ n. may_live s.kind (stored_kind os n)) s.home ≡ true → (n : ℕ) × (s.home ≡ dbref_of n) × (may_live k (kind_in (loaded os) n) ≡ true)
lives_tied os s k e h =
    let l : Leads (λ n. may_live s.kind (stored_kind os n)) s.home = leads (λ n. may_live s.kind (stored_kind os n)) s.home h in
    (l.number, l.is, ap (λ z. may_live k z) (kind_loaded os l.number) ∙ ap (λ z. may_live z (stored_kind os l.number)) (sym e) ∙ l.holds)

home_tied : (os : List Stored) (s : Stored) (k : Kind) → s.kind ≡ k → home_for k os s ≡ true → HasHome (loaded os) (record (stored_object s) { kind = k })
home_tied os s Thing e h = lives_tied os s Thing e h
home_tied os s Player e h = lives_tied os s Player e h
home_tied os s k e h = eq_same s.home nothing h

pub ties_loaded : (os : List Stored) (k : ℕ) (s : Stored) → AliveTied os k s → IsTied (loaded os) (stored_object s)
ties_loaded os k s t = record { owner = owner_tied os s t.owner; link = link_tied os s t.link; home = home_tied os s s.kind refl t.home }

-- Garbage.

pub record Blank (s : Stored) : Type 0 where
  pub name : s.name ≡ codes "<garbage>"
  pub owner : s.owner ≡ dbref_of 1
  pub place : s.place ≡ nothing
  pub link : s.link ≡ nothing
  pub home : s.home ≡ nothing
  pub contents : s.first_content ≡ nothing
  pub exits : s.first_exit ≡ nothing
  pub next : s.next ≡ nothing
  pub flags : s.flags.0 ≡ 0
  pub level : s.level ≡ 0
  pub props : length s.props ≡ 0
  pub lines : length s.lines ≡ 0
  pub digest : length s.digest ≡ 0

record Eight (a b c d e f g h : Bool) : Type 0 where
  pub first : (a ≡ true) × (b ≡ true) × (c ≡ true) × (d ≡ true) × (e ≡ true)
  pub sixth : f ≡ true
  pub seventh : g ≡ true
  pub eighth : h ≡ true

parts8 : (a b c d e f g h : Bool) → (a && b && c && d && e && f && g && h) ≡ true → Eight a b c d e f g h
parts8 a b c d e f g h all =
    let p = and_parts (a && b && c && d && e && f && g) h all in
    let q = and_parts (a && b && c && d && e && f) g p.0 in
    let r = and_parts (a && b && c && d && e) f q.0 in
    record { first = parts5 a b c d e r.0; sixth = r.1; seventh = q.1; eighth = p.1 }

pub blank_parts : (s : Stored) → is_blank_record s ≡ true → Blank s
blank_parts s h =
    let all = parts6 (bytes_eq s.name (codes "<garbage>") && same s.owner (dbref_of 1) && same s.place nothing && same s.link nothing && same s.home nothing && same s.first_content nothing && same s.first_exit nothing && same s.next nothing)
    (eqb s.flags.0 0) (eqb s.level 0) (eqb (length s.props) 0) (eqb (length s.lines) 0) (eqb (length s.digest) 0) h in
    let names = parts8 (bytes_eq s.name (codes "<garbage>")) (same s.owner (dbref_of 1)) (same s.place nothing) (same s.link nothing) (same s.home nothing) (same s.first_content nothing) (same s.first_exit nothing) (same s.next nothing) all.0 in
    record {
      name = (bytes_eq-Decides s.name (codes "<garbage>")).0 names.first.0;
      owner = eq_same s.owner (dbref_of 1) names.first.1;
      place = eq_same s.place nothing names.first.2;
      link = eq_same s.link nothing names.first.3;
      home = eq_same s.home nothing names.first.4;
      contents = eq_same s.first_content nothing names.sixth;
      exits = eq_same s.first_exit nothing names.seventh;
      next = eq_same s.next nothing names.eighth;
      flags = eqb-true s.flags.0 0 all.1;
      level = eqb-true s.level 0 all.2;
      props = eqb-true (length s.props) 0 all.3;
      lines = eqb-true (length s.lines) 0 all.4;
      digest = eqb-true (length s.digest) 0 all.5;
    }

pub blank_tied : (os : List Stored) (k : ℕ) (s : Stored) → TiedAt os k s → is_garbage s.kind ≡ true → Blank s
blank_tied os k s t g =
    blank_parts s (sym (cond-true (is_garbage s.kind) (is_blank_record s) (has_owner os s && has_place os k s && record_has_link os s && home_for s.kind os s && has_chains os s) g) ∙ t.tied)

pub blank_object : (s : Stored) → Blank s → is_garbage s.kind ≡ true → stored_object s ≡ garbage
unfolding garbage
blank_object s b g =
    let kind : s.kind ≡ Garbage = only_garbage s.kind g in
    let props : s.props ≡ [] = no_items s.props b.props in
    let lines : s.lines ≡ [] = no_items s.lines b.lines in
    let digest : s.digest ≡ [] = no_items s.digest b.digest in
    rw (kind, b.name, b.owner, b.place, b.link, b.home, b.flags, b.level, props, lines, digest) refl
