-- A source that is read to its end without a fault is written by the rules of the grammar.
use Rattle.std.proofs.Common.{◌≡◌, ℕ, zero, suc, ◌+◌, ◌≤◌, List, [], ◌∷◌, ◌++◌, length, Bool, true, false, cond, refl, sym, ap, subst, ◌∙◌, append_assoc, arith, length-append, leb-true}
use Rattle.std.specs.Prelude.{Option, Some, None, Result, Ok, Err, nat_lt, nat_le, option_map, slice_get, codes}
use Rattle.std.specs.Str.{bytes_eq}
use Rattle.std.proofs.lemmas.Slice.Eq.{bytes_eq-Decides}
use Rattle.muck_laws.proofs.Lists.{one_longer_spelling}
use Rattle.indexmap.specs.IndexMap.{insert_entry}
use Rattle.std.proofs.lemmas.List.{append-nil, map-append, length-map}
use Rattle.muf_model.specs.declared.code.VarId.{VarId}
use Rattle.muf_model.specs.declared.code.Offer.{Offer}
use Rattle.muf_model.specs.declared.code.Offer.TheVariants.{Nobody, Wizards, All}
use Rattle.muf_model.specs.declared.code.Word.{Word}
use Rattle.muf_model.specs.declared.code.Word.TheVariants as item
use Rattle.muf_model.specs.Tree.{Block, stop, Definition, Tree}
use Rattle.muf_token.specs.declared.token.Token.{Token}
use Rattle.muf_token.specs.declared.token.TokenKind.{TokenKind}
use Rattle.muf_token.specs.declared.token.TokenKind.TheVariants as token
use Rattle.muf_compile.specs.declared.act.Act.{Act}
use Rattle.muf_compile.specs.declared.act.Act.TheVariants as act
use Rattle.muf_compile.specs.declared.act.Reading.{Reading}
use Rattle.muf_compile.specs.declared.control.Control.{Control}
use Rattle.muf_compile.specs.declared.control.Control.TheVariants as control
use Rattle.muf_compile.specs.declared.names.Meaning.{Meaning}
use Rattle.muf_compile.specs.declared.names.Meaning.TheVariants as meaning
use Rattle.muf_compile.specs.declared.names.Wanted.{Wanted}
use Rattle.muf_compile.specs.declared.names.Wanted.TheVariants as wanted
use Rattle.muf_compile.specs.declared.names.Mode.{Mode}
use Rattle.muf_compile.specs.declared.names.Mode.TheVariants as mode
use Rattle.muf_compile.specs.declared.fault.CompileKind.{CompileKind}
use Rattle.muf_compile.specs.declared.fault.CompileKind.TheVariants.{BadHeader, TooLong}
use Rattle.muf_compile.specs.declared.fault.Refusal.{Refusal}
use Rattle.muf_compile.specs.Acts.{cost_of}
use Rattle.muf_compile.specs.Faults.{refuse, and_then}
use Rattle.muf_compile.specs.Names.{control_of}
use Rattle.muf_compile.specs.Reading as reading
use Rattle.muf_compile.specs.Reading.{Known, Read, word_read, read_in, with_mode, read_unless, new_name_fault, item_named, word_number, usable, may_use, before_bracket, variables_most, is_unfit}
use Rattle.muf_compile.specs.Growth.{Unfinished, Growth, Grown, grow, units_added, units_most, end_part, offered_in, Draft, token_step, tree_of, tree_from, whole_tree, finished_in, empty_draft}
use Rattle.muf_compile.specs.inner.Spells.{at_line, nothing}
use Rattle.muf_compile.specs.inner.Grammar.{IsNth, IsFree, structure, Says, text, integer, object, address, structural, named, at, Arguments, no_arguments, one_argument, Passed, none_passed, one_passed, bindings, Header, bare, with_arguments, with_results, Opened, begun, says, own_variable, stored_variable, names_of, outside, Declares, nothing_declared, shared_variable, local_variable, offered_to_all, offered_to_wizards, word_defined, IsProgram}
use Rattle.muf_compile.proofs.Scopes.{Entered, no_names, word_more, variable_more, Owned, no_locals, local_more, as_many_owned, named_by, free, entered_last, owned_last, numbered_by, control_written, written_as}
use Rattle.muf_compile.proofs.Sound.{Written, at_top, GrownWritten, IsInside, grow_written}
use Rattle.muf_compile.proofs.Titles.{bracket_yes, bracket_found}

-- ---- what is written so far

-- no word is open behind these
pub record Between (ts : List Token) (names : List (List ℕ × Meaning)) (count : ℕ) (locals : List (List ℕ × VarId)) (g : Growth) : Type 0 where
  pub vs : List (List ℕ)
  pub declares : Declares ts g.words vs
  pub entered : Entered names (names_of g.words) vs
  pub counts : count ≡ length vs
  pub empty : locals ≡ []
  pub now : g.now ≡ stop
  pub around : g.around ≡ []

-- a header is open behind these, with these arguments so far
pub record Heading (ts us : List Token) (names : List (List ℕ × Meaning)) (count : ℕ) (locals : List (List ℕ × VarId)) (g : Growth) : Type 0 where
  pub vs : List (List ℕ)
  pub declares : Declares ts g.words vs
  pub new : IsFree (outside g.words vs) g.title
  pub entered : Entered names (names_of g.words ++ g.title ∷ []) vs
  pub counts : count ≡ length vs
  pub ls : List (List ℕ)
  pub owned : Owned locals ls
  pub arguments : Arguments (names_of g.words ++ g.title ∷ []) vs us ls
  pub now : g.now ≡ stop
  pub around : g.around ≡ []

-- a word is open behind these, with these words of its own so far
pub record Within (ts us : List Token) (names : List (List ℕ × Meaning)) (count : ℕ) (locals : List (List ℕ × VarId)) (g : Growth) : Type 0 where
  pub vs : List (List ℕ)
  pub declares : Declares ts g.words vs
  pub new : IsFree (outside g.words vs) g.title
  pub entered : Entered names (names_of g.words ++ g.title ∷ []) vs
  pub counts : count ≡ length vs
  pub ls : List (List ℕ)
  pub owned : Owned locals ls
  pub rs : List Reading
  pub opened : Opened (names_of g.words ++ g.title ∷ []) vs g.title us ls rs
  pub written : Written g.now g.around rs

-- these words are written by the rules, and this may come next
pub data Spelt (k : Known) (g : Growth) : List Token → Mode → Type 0 where
  between : {ts : List Token} → Between ts k.names k.variables k.locals g → Spelt k g ts mode.Outside
  colon : {ts : List Token} (line : ℕ) → Between ts k.names k.variables k.locals g → Spelt k g (ts ++ at line (codes ":") ∷ []) (mode.Naming (wanted.Title line))
  var : {ts : List Token} (line : ℕ) → Between ts k.names k.variables k.locals g → Spelt k g (ts ++ at line (codes "var") ∷ []) (mode.Naming wanted.Shared)
  lvar : {ts : List Token} (line : ℕ) → Between ts k.names k.variables k.locals g → Spelt k g (ts ++ at line (codes "lvar") ∷ []) (mode.Naming wanted.Shared)
  offer_all : {ts : List Token} (line : ℕ) → Between ts k.names k.variables k.locals g → Spelt k g (ts ++ at line (codes "public") ∷ []) (mode.Naming (wanted.Offered All))
  offer_wizards : {ts : List Token} (line : ℕ) → Between ts k.names k.variables k.locals g → Spelt k g (ts ++ at line (codes "wizcall") ∷ []) (mode.Naming (wanted.Offered Wizards))
  heading : {ts us : List Token} (first line : ℕ) → Heading ts us k.names k.variables k.locals g → Spelt k g (ts ++ at first (codes ":") ∷ at line (g.title ++ codes "[") ∷ us) (mode.Heading first)
  results : {ts us xs : List Token} (first line mid : ℕ) → Heading ts us k.names k.variables k.locals g → Passed xs → Spelt k g (ts ++ at first (codes ":") ∷ at line (g.title ++ codes "[") ∷ (us ++ at mid (codes "--") ∷ xs)) (mode.Results first)
  within : {ts us : List Token} → Within ts us k.names k.variables k.locals g → Spelt k g (ts ++ us) mode.Inside
  own_var : {ts us : List Token} (line : ℕ) → Within ts us k.names k.variables k.locals g → Spelt k g (ts ++ (us ++ at line (codes "var") ∷ [])) (mode.Naming wanted.Own)
  own_store : {ts us : List Token} (line : ℕ) → Within ts us k.names k.variables k.locals g → Spelt k g (ts ++ (us ++ at line (codes "var!") ∷ [])) (mode.Naming (wanted.Stored line))

-- what holds after a step of the tree and of the reader, where it isn't refused; there are at most so many words
abbrev GrownSpelt : Known → List Token → ℕ → Grown → Type 0
GrownSpelt k ts most (Ok g) = Spelt k g ts k.mode × (length g.words ≤ most)
GrownSpelt k ts most (Err r) = Unit {0}

abbrev ReadSpelt : Growth → List Token → Read → Type 0
ReadSpelt g ts (Ok p) = GrownSpelt p.0 ts (length g.words + cost_of p.1.act) (grow p.1.line p.1.act g)
ReadSpelt g ts (Err r) = Unit {0}

-- A draft of these words. It has no more words than instructions, and of these no more than a program may have.
pub record IsSpelt (ts : List Token) (d : Draft) : Type 0 where
  pub spelt : Spelt d.known d.growth ts d.known.mode
  pub words : length d.growth.words ≤ d.units
  pub units : d.units ≤ units_most

abbrev pub DraftSpelt : List Token → Result Draft Refusal → Type 0
DraftSpelt ts (Ok d) = IsSpelt ts d
DraftSpelt ts (Err r) = Unit {0}

-- ---- answers that may be refused

goes_unless : (g : Growth) (ts : List Token) (line : ℕ) (fault : Option CompileKind) (r : Read) → (fault ≡ None → ReadSpelt g ts r) → ReadSpelt g ts (read_unless line fault r)
goes_unless g ts line None r h = h refl
goes_unless g ts line (Some kind) r h = tt

goes_where : (g : Growth) (ts : List Token) (line : ℕ) (kind : CompileKind) (b : Bool) (r : Read) → (b ≡ true → ReadSpelt g ts r) → ReadSpelt g ts (cond b r (refuse line kind))
goes_where g ts line kind true r h = h refl
goes_where g ts line kind false r h = tt

-- ---- steps between words

module _ (k : Known) (g : Growth) (line : ℕ) (name : List ℕ) where
  abbrev word : Token
  word = record { line = line; kind = token.Word name }

  -- the word of the structure that begins a declaration
  declares_next : (ts : List Token) (c : Option Control) → control_of name ≡ c → Between ts k.names k.variables k.locals g → ReadSpelt g (ts ++ word ∷ []) (reading.declaration line c k)
  declares_next ts (Some control.Colon) e h = (subst (λ x. Spelt (with_mode (mode.Naming (wanted.Title line)) k) g (ts ++ at line x ∷ []) (mode.Naming (wanted.Title line))) (sym (control_written name control.Colon e)) (colon line h), omega arith)
  declares_next ts (Some control.Var) e h = (subst (λ x. Spelt (with_mode (mode.Naming wanted.Shared) k) g (ts ++ at line x ∷ []) (mode.Naming wanted.Shared)) (sym (control_written name control.Var e)) (var line h), omega arith)
  declares_next ts (Some control.LVar) e h = (subst (λ x. Spelt (with_mode (mode.Naming wanted.Shared) k) g (ts ++ at line x ∷ []) (mode.Naming wanted.Shared)) (sym (control_written name control.LVar e)) (lvar line h), omega arith)
  declares_next ts (Some control.Public) e h = (subst (λ x. Spelt (with_mode (mode.Naming (wanted.Offered All)) k) g (ts ++ at line x ∷ []) (mode.Naming (wanted.Offered All))) (sym (control_written name control.Public e)) (offer_all line h), omega arith)
  declares_next ts (Some control.WizCall) e h = (subst (λ x. Spelt (with_mode (mode.Naming (wanted.Offered Wizards)) k) g (ts ++ at line x ∷ []) (mode.Naming (wanted.Offered Wizards))) (sym (control_written name control.WizCall e)) (offer_wizards line h), omega arith)
  declares_next ts _ e h = tt

goes_else : (g : Growth) (ts : List Token) (line : ℕ) (kind : CompileKind) (b : Bool) (r : Read) → ReadSpelt g ts r → ReadSpelt g ts (cond b (refuse line kind) r)
goes_else g ts line kind true r h = tt
goes_else g ts line kind false r h = h

goes_own : (g : Growth) (ts : List Token) (line : ℕ) (fault : Option CompileKind) (b : Bool) (p : Known × VarId) (next : Known × VarId → Read) → (fault ≡ None → ReadSpelt g ts (next p)) → ReadSpelt g ts (and_then (read_unless line fault (cond b (Ok p) (refuse line TooLong))) next)
goes_own g ts line None true p next h = h refl
goes_own g ts line None false p next h = tt
goes_own g ts line (Some kind) b p next h = tt

names_offered : (n : ℕ) (o : Offer) (ds : List Definition) → names_of (offered_in n o ds) ≡ names_of ds
names_offered n o [] = refl
names_offered zero o (d ∷ ds) = refl
names_offered (suc n) o (d ∷ ds) = ap (λ l. d.name ∷ l) (names_offered n o ds)

as_many_names : (ds : List Definition) → length (names_of ds) ≡ length ds
as_many_names ds = length-map ds (λ d. d.name)

-- ---- a name behind a declaration

module _ (k : Known) (g : Growth) (line : ℕ) (name : List ℕ) (ts all : List Token) (h : Between ts k.names k.variables k.locals g) where
  none_owned : Owned k.locals []
  none_owned = subst (λ l. Owned l []) (sym h.empty) no_locals

  is_free : new_name_fault name k ≡ None → IsFree (outside g.words h.vs) name
  is_free e = free k (names_of g.words) h.vs [] h.entered none_owned name e

  shared_next : (IsFree (outside g.words h.vs) name → Declares all g.words (h.vs ++ name ∷ [])) → ReadSpelt g all (reading.shared_variable line name k)
  shared_next declared =
      goes_unless g all line (new_name_fault name k) _
      (λ e. goes_where g all line TooLong (nat_lt k.variables variables_most) _
      (λ l. (
        between
            (record {
              vs = h.vs ++ name ∷ [];
              declares = declared (is_free e);
              entered = rw (entered_last k (names_of g.words) h.vs [] h.entered none_owned name e (meaning.Variable (record { 0 = 4 + k.variables })), h.counts) (variable_more name h.entered);
              counts = one_longer_spelling h.vs name k.variables h.counts;
              empty = h.empty;
              now = h.now;
              around = h.around;
            }),
        omega arith,
      )))

  offered_next : (o : Offer) → ((n : ℕ) → IsNth n (names_of g.words) name → Declares all (offered_in n o g.words) h.vs) → ReadSpelt g all (reading.offered line o name k)
  offered_next o declared = goes_else g all line BadHeader (is_unfit name) _ (by (word_number name k) refl)
    where
      by : (n : Option ℕ) → word_number name k ≡ n → ReadSpelt g all (reading.offered_as line o n k)
      by (Some n) e = (
        between
            (record {
              vs = h.vs;
              declares = declared n (numbered_by k (names_of g.words) h.vs [] h.entered none_owned name n e);
              entered = rw (names_offered n o g.words) h.entered;
              counts = h.counts;
              empty = h.empty;
              now = h.now;
              around = h.around;
            }),
        (let i = ap length (names_offered n o g.words) ∙ as_many_names g.words in let j = as_many_names (offered_in n o g.words) in omega arith),
      )
      by None e = tt

  module _ (number : ℕ) (same : number ≡ length g.words) where
    title_entered : new_name_fault name k ≡ None → Entered (insert_entry bytes_eq k.names name (meaning.Word number)) (names_of g.words ++ name ∷ []) h.vs
    title_entered e = rw (entered_last k (names_of g.words) h.vs [] h.entered none_owned name e (meaning.Word number), same ∙ sym (as_many_names g.words)) (word_more name h.entered)

    -- a word without a header
    title_next : (first : ℕ) → all ≡ ts ++ at first (codes ":") ∷ at line name ∷ [] → ((front : List ℕ) → name ≡ front ++ codes "[" → ⊥) → ReadSpelt g all (reading.titled_as number line name mode.Inside k)
    title_next first e plain =
        goes_unless g all line (new_name_fault name k) _
        (λ f. rw e (
          within {ts = ts} {us = at first (codes ":") ∷ at line name ∷ []}
              (record {
                vs = h.vs;
                declares = h.declares;
                new = is_free f;
                entered = title_entered f;
                counts = h.counts;
                ls = [];
                owned = none_owned;
                rs = [];
                opened = begun (bare first line plain);
                written = rw (h.now, h.around) (at_top nothing);
              }),
          omega arith,
        ))

    -- a word with a header
    head_next : (first : ℕ) → all ≡ ts ++ at first (codes ":") ∷ at line (name ++ codes "[") ∷ [] → ReadSpelt g all (reading.titled_as number line name (mode.Heading first) k)
    head_next first e =
        goes_unless g all line (new_name_fault name k) _
        (λ f. rw e (
          heading {ts = ts} {us = []} first line
              (record {
                vs = h.vs;
                declares = h.declares;
                new = is_free f;
                entered = title_entered f;
                counts = h.counts;
                ls = [];
                owned = none_owned;
                arguments = no_arguments;
                now = h.now;
                around = h.around;
              }),
          omega arith,
        ))

-- ---- a word among the items

module _ (k : Known) (g : Growth) (ts us : List Token) (w : Within ts us k.names k.variables k.locals g) where
  -- an act among the items, which the words say so far
  goes_on : (next : Known) (vs : List Token) (line : ℕ) (a : Act) → IsInside a → next.mode ≡ mode.Inside → next.names ≡ k.names → next.variables ≡ k.variables → (ls : List (List ℕ)) → Owned next.locals ls → Opened (names_of g.words ++ g.title ∷ []) w.vs g.title vs ls (w.rs ++ at_line line a ∷ []) → GrownSpelt next (ts ++ vs) (length g.words + cost_of a) (grow line a g)
  goes_on next vs line a i m n c ls owned opened = by (grow line a g) (grow_written line a g w.rs i w.written)
    where
      by : (r : Grown) → GrownWritten g r (w.rs ++ at_line line a ∷ []) → GrownSpelt next (ts ++ vs) (length g.words + cost_of a) r
      by (Ok h) e = (
        subst (λ mode. Spelt next h (ts ++ vs) mode) (sym m)
            (within {ts = ts} {us = vs}
            (record {
              vs = w.vs;
              declares = rw e.1 w.declares;
              new = rw (e.1, e.2) w.new;
              entered = rw (e.1, e.2, n) w.entered;
              counts = c ∙ w.counts;
              ls = ls;
              owned = owned;
              rs = w.rs ++ at_line line a ∷ [];
              opened = rw (e.1, e.2) opened;
              written = e.0;
            })),
        (let i : length h.words ≡ length g.words = ap length e.1 in omega arith),
      )
      by (Err r) e = tt

  -- a word that says something by itself
  says_next : (line : ℕ) (kind : TokenKind) (a : Act) → k.mode ≡ mode.Inside → IsInside a → Says (record { words = names_of g.words ++ g.title ∷ []; variables = w.vs; locals = w.ls }) kind a → ReadSpelt g ((ts ++ us) ++ record { line = line; kind = kind } ∷ []) (reading.acts line a k)
  says_next line kind a m i s = rw (append_assoc ts us (record { line = line; kind = kind } ∷ [])) (goes_on k (us ++ record { line = line; kind = kind } ∷ []) line a i m refl refl w.ls w.owned (says line w.opened s))

  module _ (line : ℕ) (name : List ℕ) where
    structure_next : (c : Control) (a : Act) (row : ℕ) → control_of name ≡ Some c → slice_get structure row ≡ Some (written_as c, a) → k.mode ≡ mode.Inside → IsInside a → ReadSpelt g ((ts ++ us) ++ at line name ∷ []) (reading.acts line a k)
    structure_next c a row e s m i = says_next line (token.Word name) a m i (subst (λ x. Says (record { words = names_of g.words ++ g.title ∷ []; variables = w.vs; locals = w.ls }) (token.Word x) a) (sym (control_written name c e)) (structural row s))

    -- `;`
    end_next : control_of name ≡ Some control.Semicolon → GrownSpelt (record k { locals = []; mode = mode.Outside }) ((ts ++ us) ++ at line name ∷ []) (length g.words + 1) (end_part line (length k.locals) g g.around)
    end_next e = by g.now g.around w.rs w.written w.opened
      where
        by : (now : Block) (parts : List Unfinished) (rs : List Reading) → Written now parts rs → Opened (names_of g.words ++ g.title ∷ []) w.vs g.title us w.ls rs → GrownSpelt (record k { locals = []; mode = mode.Outside }) ((ts ++ us) ++ at line name ∷ []) (length g.words + 1) (end_part line (length k.locals) (record g { now = now }) parts)
        by now parts rs (at_top s) o = (
          between
              (record {
                vs = w.vs;
                declares = rw (append_assoc ts us (at line name ∷ []), control_written name control.Semicolon e, as_many_owned w.owned) (word_defined line w.declares w.new o s);
                entered = rw (map-append (λ (d : Definition). d.name) g.words (record { name = g.title; offer = Nobody; variables = length k.locals; body = now; last = line } ∷ [])) w.entered;
                counts = w.counts;
                empty = refl;
                now = refl;
                around = refl;
              }),
          omega (arith, length-append {A = Definition}),
        )
        by now parts rs _ o = tt

    control_next : (c : Control) → control_of name ≡ Some c → k.mode ≡ mode.Inside → ReadSpelt g ((ts ++ us) ++ at line name ∷ []) (reading.control_read line c k)
    control_next control.Var e m = rw (append_assoc ts us (at line name ∷ []), control_written name control.Var e) (own_var line w, omega arith)
    control_next control.VarStore e m = rw (append_assoc ts us (at line name ∷ []), control_written name control.VarStore e) (own_store line w, omega arith)
    control_next control.Semicolon e m = end_next e
    control_next control.If e m = structure_next control.If _ 0 e refl m tt
    control_next control.Else e m = structure_next control.Else _ 1 e refl m tt
    control_next control.Then e m = structure_next control.Then _ 2 e refl m tt
    control_next control.Try e m = structure_next control.Try _ 3 e refl m tt
    control_next control.Catch e m = structure_next control.Catch _ 4 e refl m tt
    control_next control.EndCatch e m = structure_next control.EndCatch _ 5 e refl m tt
    control_next control.Begin e m = structure_next control.Begin _ 6 e refl m tt
    control_next control.For e m = structure_next control.For _ 7 e refl m tt
    control_next control.ForEach e m = structure_next control.ForEach _ 8 e refl m tt
    control_next control.Repeat e m = structure_next control.Repeat _ 9 e refl m tt
    control_next control.Until e m = structure_next control.Until _ 10 e refl m tt
    control_next control.While e m = structure_next control.While _ 11 e refl m tt
    control_next control.Break e m = structure_next control.Break _ 12 e refl m tt
    control_next control.Continue e m = structure_next control.Continue _ 13 e refl m tt
    control_next control.Exit e m = structure_next control.Exit _ 14 e refl m tt
    control_next _ e m = tt

    meant_next : (r : Option Word) → item_named name k ≡ r → k.mode ≡ mode.Inside → ReadSpelt g ((ts ++ us) ++ at line name ∷ []) (reading.word_meant line (usable r) k)
    meant_next None e m = tt
    meant_next (Some x) e m = by (may_use x) refl
      where
        by : (b : Bool) → may_use x ≡ b → ReadSpelt g ((ts ++ us) ++ at line name ∷ []) (reading.word_meant line (cond b (Some x) None) k)
        by true t = says_next line (token.Word name) (act.Item x) m tt (named (named_by k (names_of g.words ++ g.title ∷ []) w.vs w.ls w.entered w.owned name x e) t)
        by false t = tt

    word_next : (c : Option Control) → control_of name ≡ c → k.mode ≡ mode.Inside → ReadSpelt g ((ts ++ us) ++ at line name ∷ []) (reading.plain_word line name c k)
    word_next (Some c) e m = control_next c e m
    word_next None e m = meant_next (item_named name k) refl m

    address_next : (r : Option ℕ) → word_number name k ≡ r → k.mode ≡ mode.Inside → ReadSpelt g ((ts ++ us) ++ record { line = line; kind = token.Address name } ∷ []) (reading.word_meant line (option_map item.Address r) k)
    address_next None e m = tt
    address_next (Some n) e m = says_next line (token.Address name) (act.Item (item.Address n)) m tt (address n (numbered_by k (names_of g.words ++ g.title ∷ []) w.vs w.ls w.entered w.owned name n e))

    -- `var name` and `var! name`
    own_entered : new_name_fault name k ≡ None → Owned (insert_entry bytes_eq k.locals name (record { 0 = 68 + length k.locals })) (w.ls ++ name ∷ [])
    own_entered e = rw (owned_last k (names_of g.words ++ g.title ∷ []) w.vs w.ls w.entered w.owned name e (record { 0 = 68 + length k.locals }), as_many_owned w.owned) (local_more name w.owned)

    own_free : new_name_fault name k ≡ None → IsFree (record { words = names_of g.words ++ g.title ∷ []; variables = w.vs; locals = w.ls }) name
    own_free e = free k (names_of g.words ++ g.title ∷ []) w.vs w.ls w.entered w.owned name e

    behind : (first : ℕ) (word : List ℕ) → (ts ++ (us ++ at first word ∷ [])) ++ at line name ∷ [] ≡ ts ++ (us ++ at first word ∷ at line name ∷ [])
    behind first word = append_assoc ts (us ++ at first word ∷ []) (at line name ∷ []) ∙ ap (λ l. ts ++ l) (append_assoc us (at first word ∷ []) (at line name ∷ []))

    var_next : (first : ℕ) → ReadSpelt g ((ts ++ (us ++ at first (codes "var") ∷ [])) ++ at line name ∷ []) (and_then (reading.own_variable line name mode.Inside k) (reading.waiting line))
    var_next first =
        goes_own g _ line (new_name_fault name k) (nat_lt (length k.locals) variables_most) _ (reading.waiting line)
        (λ e. rw (behind first (codes "var")) (
          within
              (record {
                vs = w.vs;
                declares = w.declares;
                new = w.new;
                entered = w.entered;
                counts = w.counts;
                ls = w.ls ++ name ∷ [];
                owned = own_entered e;
                rs = w.rs;
                opened = own_variable first line w.opened (own_free e);
                written = w.written;
              }),
          omega arith,
        ))

    store_next : (first : ℕ) → ReadSpelt g ((ts ++ (us ++ at first (codes "var!") ∷ [])) ++ at line name ∷ []) (and_then (reading.own_variable line name mode.Inside k) (reading.storing_word first))
    store_next first =
        goes_own g _ line (new_name_fault name k) (nat_lt (length k.locals) variables_most) _ (reading.storing_word first)
        (λ e. rw (behind first (codes "var!")) (goes_on (record k { locals = insert_entry bytes_eq k.locals name (record { 0 = 68 + length k.locals }); mode = mode.Inside }) _ first (act.Item (item.Store (record { 0 = 68 + length k.locals }))) tt refl refl refl (w.ls ++ name ∷ []) (own_entered e) (rw (as_many_owned w.owned) (stored_variable first line w.opened (own_free e)))))

-- what stands among the items
inside_next : (k : Known) (g : Growth) (ts us : List Token) (t : Token) → Within ts us k.names k.variables k.locals g → k.mode ≡ mode.Inside → ReadSpelt g ((ts ++ us) ++ t ∷ []) (reading.read_inside t.line t.kind k)
inside_next k g ts us t w m = by t.kind
  where
    by : (kind : TokenKind) → ReadSpelt g ((ts ++ us) ++ record { line = t.line; kind = kind } ∷ []) (reading.read_inside t.line kind k)
    by (token.Word name) = word_next k g ts us w t.line name (control_of name) refl m
    by (token.Text bytes) = says_next k g ts us w t.line (token.Text bytes) _ m tt text
    by (token.Number n) = says_next k g ts us w t.line (token.Number n) _ m tt integer
    by (token.Ref d) = says_next k g ts us w t.line (token.Ref d) _ m tt object
    by (token.Address name) = address_next k g ts us w t.line name (word_number name k) refl m

-- ---- a word in a header

module _ (k : Known) (g : Growth) (ts us : List Token) (first line : ℕ) (h : Heading ts us k.names k.variables k.locals g) where
  abbrev head : List Token → List Token
  head vs = ts ++ at first (codes ":") ∷ at line (g.title ++ codes "[") ∷ vs

  -- one more behind these
  head_more : (vs xs : List Token) → head vs ++ xs ≡ head (vs ++ xs)
  head_more vs xs = append_assoc ts (at first (codes ":") ∷ at line (g.title ++ codes "[") ∷ vs) xs

  -- `]`
  header_ends : (vs : List Token) → Header (names_of g.words ++ g.title ∷ []) h.vs g.title (at first (codes ":") ∷ at line (g.title ++ codes "[") ∷ vs) h.ls (bindings first (length h.ls)) → ReadSpelt g (head vs) (reading.header_end first k)
  header_ends vs header = by (length k.locals) (as_many_owned h.owned)
    where
      empty : Written g.now g.around []
      empty = rw (h.now, h.around) (at_top nothing)

      begins : (now : Block) (n : ℕ) → n ≡ length h.ls → Written now g.around (bindings first n) → Within ts (at first (codes ":") ∷ at line (g.title ++ codes "[") ∷ vs) k.names k.variables k.locals (record g { now = now })
      begins now n e written =
          record {
            vs = h.vs;
            declares = h.declares;
            new = h.new;
            entered = h.entered;
            counts = h.counts;
            ls = h.ls;
            owned = h.owned;
            rs = bindings first n;
            opened = begun (rw e header);
            written = written;
          }

      by : (n : ℕ) → n ≡ length h.ls → ReadSpelt g (ts ++ at first (codes ":") ∷ at line (g.title ++ codes "[") ∷ vs) (reading.acts first (reading.binding n) (with_mode mode.Inside k))
      by zero e = (within (begins g.now zero e empty), omega arith)
      by (suc n) e = (within (begins _ (suc n) e (grow_written first (act.Item (item.Bind (suc n))) g [] tt empty).0), omega arith)

  -- a word before `--`
  argument_next : (at_line : ℕ) (name : List ℕ) → ReadSpelt g (head us ++ at at_line name ∷ []) (reading.argument first at_line name k)
  argument_next here name = rw (head_more us (at here name ∷ [])) (by (bytes_eq name (codes "]")) refl (bytes_eq name (codes "--")) refl)
    where
      differs : (word : List ℕ) → bytes_eq name word ≡ false → name ≡ word → ⊥
      differs word f e = let t : bytes_eq name word ≡ true = (bytes_eq-Decides name word).1 e in cc

      by : (b : Bool) → bytes_eq name (codes "]") ≡ b → (c : Bool) → bytes_eq name (codes "--") ≡ c → ReadSpelt g (head (us ++ at here name ∷ [])) (cond b (reading.header_end first k) (cond c (reading.acts here act.Wait (with_mode (mode.Results first) k)) (and_then (reading.own_variable here name (mode.Heading first) k) (reading.waiting here))))
      by true e c f = header_ends (us ++ at here name ∷ []) (rw ((bytes_eq-Decides name (codes "]")).0 e) (with_arguments first line here h.arguments))
      by false e true f = rw ((bytes_eq-Decides name (codes "--")).0 f) (results {xs = []} first line here h none_passed, omega arith)
      by false e false f =
          goes_own g _ here (new_name_fault name k) (nat_lt (length k.locals) variables_most) _ (reading.waiting here)
          (λ x. (
            heading first line
                (record {
                  vs = h.vs;
                  declares = h.declares;
                  new = h.new;
                  entered = h.entered;
                  counts = h.counts;
                  ls = h.ls ++ name ∷ [];
                  owned = rw (owned_last k (names_of g.words ++ g.title ∷ []) h.vs h.ls h.entered h.owned name x (record { 0 = 68 + length k.locals }), as_many_owned h.owned) (local_more name h.owned);
                  arguments = one_argument here h.arguments (free k (names_of g.words ++ g.title ∷ []) h.vs h.ls h.entered h.owned name x) (differs (codes "]") e) (differs (codes "--") f);
                  now = h.now;
                  around = h.around;
                }),
            omega arith,
          ))

  -- a word behind it
  result_next : (mid : ℕ) (xs : List Token) (t : Token) → Passed xs → k.mode ≡ mode.Results first → ReadSpelt g (head (us ++ at mid (codes "--") ∷ xs) ++ t ∷ []) (reading.read_result first t.line t.kind k)
  result_next mid xs t p m = rw (head_more (us ++ at mid (codes "--") ∷ xs) (t ∷ []), append_assoc us (at mid (codes "--") ∷ xs) (t ∷ [])) (by t.kind refl)
    where
      passes : (kind : TokenKind) → t.kind ≡ kind → (kind ≡ token.Word (codes "]") → ⊥) → ReadSpelt g (head (us ++ at mid (codes "--") ∷ (xs ++ t ∷ []))) (reading.acts t.line act.Wait k)
      passes kind e n = (subst (λ mode. Spelt k g (head (us ++ at mid (codes "--") ∷ (xs ++ t ∷ []))) mode) (sym m) (results first line mid h (one_passed t p (λ f. n (sym e ∙ f)))), omega arith)

      by : (kind : TokenKind) → t.kind ≡ kind → ReadSpelt g (head (us ++ at mid (codes "--") ∷ (xs ++ t ∷ []))) (reading.read_result first t.line kind k)
      by (token.Word name) e = test (bytes_eq name (codes "]")) refl
        where
          test : (b : Bool) → bytes_eq name (codes "]") ≡ b → ReadSpelt g (head (us ++ at mid (codes "--") ∷ (xs ++ t ∷ []))) (cond b (reading.header_end first k) (reading.acts t.line act.Wait k))
          test true f =
              let same : t ≡ at t.line (codes "]") = ap (λ (kind : TokenKind). record { line = t.line; kind = kind }) (e ∙ ap (λ x. token.Word x) ((bytes_eq-Decides name (codes "]")).0 f)) in
              header_ends (us ++ at mid (codes "--") ∷ (xs ++ t ∷ [])) (rw same (with_results first line mid t.line h.arguments p))
          test false f = passes (token.Word name) e (λ x. let y : name ≡ codes "]" = cc in let z : bytes_eq name (codes "]") ≡ true = (bytes_eq-Decides name (codes "]")).1 y in cc)
      by kind e = passes kind e (λ f. cc)

-- ---- a word of a source

outside_next : (k : Known) (g : Growth) (ts : List Token) (t : Token) → Between ts k.names k.variables k.locals g → ReadSpelt g (ts ++ t ∷ []) (reading.read_outside t.line t.kind k)
outside_next k g ts t h = by t.kind
  where
    by : (kind : TokenKind) → ReadSpelt g (ts ++ record { line = t.line; kind = kind } ∷ []) (reading.read_outside t.line kind k)
    by (token.Word name) = declares_next k g t.line name ts (control_of name) refl h
    by _ = tt

title_read : (k : Known) (g : Growth) (ts : List Token) (first line number : ℕ) (name : List ℕ) → number ≡ length g.words → Between ts k.names k.variables k.locals g → ReadSpelt g (ts ++ at first (codes ":") ∷ at line name ∷ []) (reading.titled number first line name k)
title_read k g ts first line number name same h = by (before_bracket name) refl
  where
    by : (r : Option (List ℕ)) → before_bracket name ≡ r → ReadSpelt g (ts ++ at first (codes ":") ∷ at line name ∷ []) (reading.titled_by number first line name r k)
    by (Some front) e = head_next k g line front ts _ h number same first (ap (λ x. ts ++ at first (codes ":") ∷ at line x ∷ []) (bracket_found name front e))
    by None e = title_next k g line name ts _ h number same first refl (λ front f. let x = bracket_yes name front f in cc)

name_next : (k : Known) (g : Growth) (number : ℕ) (w : Wanted) (t : Token) (ts : List Token) → ((name : List ℕ) → t.kind ≡ token.Word name → ReadSpelt g ts (reading.name_wanted number t.line w name k)) → ReadSpelt g ts (reading.read_name number t.line w t.kind k)
name_next k g number w t ts h = by t.kind refl
  where
    by : (kind : TokenKind) → t.kind ≡ kind → ReadSpelt g ts (reading.read_name number t.line w kind k)
    by (token.Word name) e = h name e
    by _ e = tt

is_word : (t : Token) (name : List ℕ) → t.kind ≡ token.Word name → t ≡ at t.line name
is_word t name e = ap (λ (kind : TokenKind). record { line = t.line; kind = kind }) e

-- one word more
read_next : (k : Known) (g : Growth) (number : ℕ) (t : Token) (ts : List Token) (m : Mode) → number ≡ length g.words → k.mode ≡ m → Spelt k g ts m → ReadSpelt g (ts ++ t ∷ []) (read_in number m t.line t.kind k)
read_next k g number t ts m same mode (between h) = outside_next k g ts t h
read_next k g number t ts m same mode (colon {ts = xs} first h) =
    name_next k g number (wanted.Title first) t _ (λ name e. rw (append_assoc xs (at first (codes ":") ∷ []) (t ∷ []), is_word t name e) (title_read k g xs first t.line number name same h))
read_next k g number t ts m same mode (var {ts = xs} first h) =
    name_next k g number wanted.Shared t _ (λ name e. rw (append_assoc xs (at first (codes "var") ∷ []) (t ∷ []), is_word t name e) (shared_next k g t.line name xs _ h (shared_variable first t.line h.declares)))
read_next k g number t ts m same mode (lvar {ts = xs} first h) =
    name_next k g number wanted.Shared t _ (λ name e. rw (append_assoc xs (at first (codes "lvar") ∷ []) (t ∷ []), is_word t name e) (shared_next k g t.line name xs _ h (local_variable first t.line h.declares)))
read_next k g number t ts m same mode (offer_all {ts = xs} first h) =
    name_next k g number (wanted.Offered All) t _ (λ name e. rw (append_assoc xs (at first (codes "public") ∷ []) (t ∷ []), is_word t name e) (offered_next k g t.line name xs _ h All (λ n i. offered_to_all first t.line n h.declares i)))
read_next k g number t ts m same mode (offer_wizards {ts = xs} first h) =
    name_next k g number (wanted.Offered Wizards) t _ (λ name e. rw (append_assoc xs (at first (codes "wizcall") ∷ []) (t ∷ []), is_word t name e) (offered_next k g t.line name xs _ h Wizards (λ n i. offered_to_wizards first t.line n h.declares i)))
read_next k g number t ts m same mode (within {ts = xs} {us} w) = inside_next k g xs us t w mode
read_next k g number t ts m same mode (own_var {ts = xs} {us} first w) = name_next k g number wanted.Own t _ (λ name e. rw (is_word t name e) (var_next k g xs us w t.line name first))
read_next k g number t ts m same mode (own_store {ts = xs} {us} first w) = name_next k g number (wanted.Stored first) t _ (λ name e. rw (is_word t name e) (store_next k g xs us w t.line name first))
read_next k g number t ts m same mode (results {ts = xs} {us} {xs = ys} first line mid h p) = result_next k g xs us first line h mid ys t p mode
read_next k g number t ts m same mode (heading {ts = xs} {us} first line h) = by t.kind refl
  where
    by : (kind : TokenKind) → t.kind ≡ kind → ReadSpelt g ((xs ++ at first (codes ":") ∷ at line (g.title ++ codes "[") ∷ us) ++ t ∷ []) (reading.read_argument first t.line kind k)
    by (token.Word name) e = rw (is_word t name e) (argument_next k g xs us first line h t.line name)
    by _ e = tt

after_count : (k : Known) (g : Growth) (ts : List Token) (line units more : ℕ) → Spelt k g ts k.mode → length g.words ≤ units + more → (b : Bool) → (b ≡ true → units + more ≤ units_most) → DraftSpelt ts (and_then (cond b (Ok (units + more)) (refuse line TooLong)) (λ n. Ok (record { known = k; growth = g; units = n })))
after_count k g ts line units more s h true l = record { spelt = s; words = h; units = l refl }
after_count k g ts line units more s h false l = tt

after_growth : (k : Known) (ts : List Token) (line units more words : ℕ) → words ≤ units → (g : Grown) → GrownSpelt k ts (words + more) g → DraftSpelt ts (and_then g (λ h. and_then (units_added line more units) (λ n. Ok (record { known = k; growth = h; units = n }))))
after_growth k ts line units more words h (Ok g) s = let f = s.1 in after_count k g ts line units more s.0 (omega arith) (nat_le (units + more) units_most) (λ e. leb-true _ _ e)
after_growth k ts line units more words h (Err r) s = tt

after_read : (g : Growth) (units : ℕ) (ts : List Token) → length g.words ≤ units → (r : Read) → ReadSpelt g ts r → DraftSpelt ts (and_then r (λ p. and_then (grow p.1.line p.1.act g) (λ h. and_then (units_added p.1.line (cost_of p.1.act) units) (λ n. Ok (record { known = p.0; growth = h; units = n })))))
after_read g units ts l (Err r) h = tt
after_read g units ts l (Ok p) h = after_growth p.0 ts p.1.line units (cost_of p.1.act) (length g.words) l (grow p.1.line p.1.act g) h

pub spelt_step : (t : Token) (ts : List Token) (d : Draft) → IsSpelt ts d → DraftSpelt (ts ++ t ∷ []) (token_step t d)
unfolding word_read
spelt_step t ts d s = after_read d.growth d.units (ts ++ t ∷ []) s.words _ (read_next d.known d.growth (length d.growth.words) t ts d.known.mode refl refl s.spelt)

pub spelt_empty : IsSpelt [] empty_draft
spelt_empty = record {
  spelt = between (record { vs = []; declares = nothing_declared; entered = no_names; counts = refl; empty = refl; now = refl; around = refl });
  words = omega arith;
  units = omega arith;
}

-- ---- a whole program

abbrev pub TreeWritten : List Token → Result Tree Refusal → Type 0
TreeWritten ts (Ok tree) = IsProgram ts tree
TreeWritten ts (Err r) = Unit {0}

whole_written : (last : ℕ) (ts : List Token) (k : Known) (g : Growth) → Between ts k.names k.variables k.locals g → TreeWritten ts (whole_tree last k.variables g.words)
whole_written last ts k g h = by g.words h.declares
  where
    by : (ds : List Definition) → Declares ts ds h.vs → TreeWritten ts (whole_tree last k.variables ds)
    by [] d = tt
    by (x ∷ ds) d = record { names = h.vs; declares = d; variables = h.counts; word = omega arith }

finished_written : (last : ℕ) (ts : List Token) (d : Draft) (m : Mode) → Spelt d.known d.growth ts m → TreeWritten ts (finished_in m last d)
finished_written last ts d m (between h) = whole_written last ts d.known d.growth h
finished_written last ts d m _ = tt

from_written : (last : ℕ) (ts more : List Token) (d : Draft) → IsSpelt ts d → TreeWritten (ts ++ more) (tree_from last more d)
from_written last ts [] d s = rw (append-nil ts) (finished_written last ts d d.known.mode s.spelt)
from_written last ts (t ∷ more) d s = rw (← append_assoc ts (t ∷ []) more) (by (token_step t d) (spelt_step t ts d s) (from_written t.line (ts ++ t ∷ []) more))
  where
    by : (r : Result Draft Refusal) → DraftSpelt (ts ++ t ∷ []) r → ((e : Draft) → IsSpelt (ts ++ t ∷ []) e → TreeWritten ((ts ++ t ∷ []) ++ more) (tree_from t.line more e)) → TreeWritten ((ts ++ t ∷ []) ++ more) (and_then r (tree_from t.line more))
    by (Ok e) h rest = rest e h
    by (Err r) h rest = tt

-- the words of a source that has a tree are written as a program of this tree
pub tree_written : (ts : List Token) → TreeWritten ts (tree_of ts)
unfolding tree_of
tree_written ts = from_written 1 [] ts empty_draft spelt_empty
