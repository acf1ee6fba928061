-- The words of a source depend on what names mean, and not on the order in which they were defined.
use Rattle.std.proofs.Common.{◌≡◌, ℕ, zero, suc, Bool, true, false, not, cond, is_some, List, [], ◌∷◌, length, Option, Some, None, Result, Ok, Err, refl, ap, subst, ◌∙◌}
use Rattle.std.specs.Str.{bytes_eq}
use Rattle.std.specs.Map.{lookup}
use Rattle.muck_model.specs.declared.dbref.Dbref.{Dbref}
use Rattle.muf_token.specs.declared.fault.FaultKind.TheVariants.{BadDirective, EndlessDefs}
use Rattle.muf_token.specs.declared.fault.Refusal.{Refusal}
use Rattle.muf_token.specs.declared.token.Token.{Token}
use Rattle.muf_token.specs.declared.piece.Piece.{Piece}
use Rattle.muf_token.specs.declared.piece.Piece.TheVariants.{Word, Text, Broken}
use Rattle.muf_token.specs.declared.branch.Branch.{Branch}
use Rattle.muf_token.specs.declared.directive.Directive.{Directive}
use Rattle.muf_token.specs.declared.directive.Directive.TheVariants.{Def, Define, Undef, Ifdef, Ifndef, Else, Endif, Include}
use Rattle.muf_token.specs.declared.includes.Definition.{Definition}
use Rattle.muf_token.specs.declared.output.Output.{Output}
use Rattle.muf_token.specs.Numbers.{token_kind}
use Rattle.muf_token.specs.Output.{refuse, and_then, definition_used}
use Rattle.muf_token.specs.Pieces.{Front, ended, broken, found, piece_ahead, source_pieces}
use Rattle.muf_token.specs.Expansion.{Definitions, is_directive, each_piece, word_expanded, expanded}
use Rattle.muf_token.specs.Branches.{is_taking, outermost, other_part, without_innermost}
use Rattle.muf_token.specs.Directives.{directive_of, Spot, name_behind, rest_of_line, body_at}
use Rattle.muf_token.specs.Source.{SourceState, Step, depth_most, with_definition, def_at, define_at, undef_at, is_defined, conditional_at, else_at, endif_at, included_object, included, include_at, directed, word_passed, put_out, piece_taken, skipped, piece_stepped, words_unless, at_front, words_within, words_from}
use Rattle.muf_token.proofs.Meanings.{MeanSame, AreSame, same_defined, same_removed, same_with_all}

-- ---- steps

-- both give answers that are alike, or the same refusal
abbrev AreBoth : {A : Type 0} → (A → A → Type 0) → Result A Refusal → Result A Refusal → Type 0
AreBoth R (Ok a) (Ok b) = R a b
AreBoth R (Err e) (Err f) = e ≡ f
AreBoth R _ _ = ⊥

then_both : {A B : Type 0} (S : B → B → Type 0) (r : Result A Refusal) (f g : A → Result B Refusal) → ((a : A) → AreBoth S (f a) (g a)) → AreBoth S (and_then r f) (and_then r g)
then_both S (Ok a) f g h = h a
then_both S (Err e) f g h = refl

then_alike : {A B : Type 0} (R : A → A → Type 0) (S : B → B → Type 0) (r q : Result A Refusal) (f g : A → Result B Refusal) → AreBoth R r q → ((a b : A) → R a b → AreBoth S (f a) (g b)) → AreBoth S (and_then r f) (and_then q g)
then_alike R S (Ok a) (Ok b) f g h k = k a b h
then_alike R S (Err e) (Err d) f g h k = h
then_alike R S (Ok a) (Err d) f g h k = absurd h
then_alike R S (Err e) (Ok b) f g h k = absurd h

then_same : {A B : Type 0} (r : Result A Refusal) (f g : A → Result B Refusal) → ((a : A) → f a ≡ g a) → and_then r f ≡ and_then r g
then_same (Ok a) f g h = h a
then_same (Err e) f g h = refl

-- ---- what a piece stands for

each_alike : (f g : Piece → Output → Result Output Refusal) → ((piece : Piece) (out : Output) → f piece out ≡ g piece out) → (body : List Piece) (out : Output) → each_piece f body out ≡ each_piece g body out
each_alike f g h [] out = refl
each_alike f g h (piece ∷ body) out = ap (λ r. and_then r (each_piece f body)) (h piece out) ∙ then_same (g piece out) (each_piece f body) (each_piece g body) (each_alike f g h body)

named_alike : (f g : List Piece → Output → Result Output Refusal) → ((body : List Piece) (out : Output) → f body out ≡ g body out) → (line : ℕ) (word : List ℕ) (o : Option (List Piece)) (out : Output) → word_expanded f line word o out ≡ word_expanded g line word o out
named_alike f g h line word None out = refl
named_alike f g h line word (Some body) out = h body out

expanded_alike : (n : ℕ) (a b : Definitions) → MeanSame a b → (line : ℕ) (piece : Piece) (out : Output) → expanded n a line piece out ≡ expanded n b line piece out
unfolding expanded
expanded_alike zero a b h line (Broken kind) out = refl
expanded_alike zero a b h line (Text text) out = refl
expanded_alike zero a b h line (Word word) out = ap (λ o. cond (is_directive word) (refuse line BadDirective) (word_expanded (λ body out. refuse line EndlessDefs) line word o out)) (h word)
expanded_alike (suc n) a b h line (Broken kind) out = refl
expanded_alike (suc n) a b h line (Text text) out = refl
expanded_alike (suc n) a b h line (Word word) out =
    ap (λ o. cond (is_directive word) (refuse line BadDirective) (word_expanded (λ body out. and_then (definition_used line out) (each_piece (expanded n a line) body)) line word o out)) (h word)
    ∙ ap (λ r. cond (is_directive word) (refuse line BadDirective) r)
    (named_alike _ _ (λ body out. then_same (definition_used line out) (each_piece (expanded n a line) body) (each_piece (expanded n b line) body) (each_alike _ _ (expanded_alike n a b h line) body)) line word (lookup (bytes_eq word) b) out)

-- ---- states

pub record AreAlike (s t : SourceState) : Type 0 where
  pub same : AreSame s.definitions t.definitions
  pub branches : s.branches ≡ t.branches
  pub out : s.out ≡ t.out

abbrev AreSteps : SourceState × Spot → SourceState × Spot → Type 0
AreSteps p q = AreAlike p.0 q.0 × (p.1 ≡ q.1)

with_branches : (s t : SourceState) → AreAlike s t → (branches : List Branch) → AreAlike (record s { branches = branches }) (record t { branches = branches })
with_branches s t h branches = record { same = h.same; branches = refl; out = h.out }

definition_alike : (name : List ℕ) (body : List Piece) (s t : SourceState) → AreAlike s t → AreAlike (with_definition name body s) (with_definition name body t)
definition_alike name body s t h = record { same = same_defined s.definitions t.definitions name body h.same; branches = h.branches; out = h.out }

def_alike : (line : ℕ) (s t : SourceState) (spot : Spot) → AreAlike s t → AreBoth AreSteps (def_at line s spot) (def_at line t spot)
def_alike line s t spot h = then_both AreSteps (name_behind line spot) _ _ (λ n. (definition_alike n.name (source_pieces (rest_of_line n.behind.text)) s t h, refl))

define_alike : (line : ℕ) (s t : SourceState) (spot : Spot) → AreAlike s t → AreBoth AreSteps (define_at line s spot) (define_at line t spot)
define_alike line s t spot h = then_both AreSteps (name_behind line spot) _ _ (λ n. then_both AreSteps (body_at line n.behind) _ _ (λ body. (definition_alike n.name body.0 s t h, refl)))

undef_alike : (line : ℕ) (s t : SourceState) (spot : Spot) → AreAlike s t → AreBoth AreSteps (undef_at line s spot) (undef_at line t spot)
undef_alike line s t spot h = then_both AreSteps (name_behind line spot) _ _ (λ n. (record { same = same_removed s.definitions t.definitions n.name h.same; branches = h.branches; out = h.out }, refl))

abbrev opened : ℕ → Bool → Bool → Branch
opened line wanted defined = record { line = line; taken = cond wanted defined (not defined); other = Some (not (cond wanted defined (not defined))) }

conditional_alike : (wanted : Bool) (line : ℕ) (s t : SourceState) (spot : Spot) → AreAlike s t → AreBoth AreSteps (conditional_at wanted line s spot) (conditional_at wanted line t spot)
conditional_alike wanted line s t spot h = then_both AreSteps (name_behind line spot) _ _ (λ n. (
  record {
    same = h.same;
    branches = ap (λ o. opened line wanted (is_some o) ∷ s.branches) (h.same.mean n.name) ∙ ap (λ rest. opened line wanted (is_defined n.name t) ∷ rest) h.branches;
    out = h.out;
  },
  refl,
))

else_alike : (line : ℕ) (s t : SourceState) → AreAlike s t → AreBoth AreAlike (else_at line s) (else_at line t)
else_alike line s t h =
    subst (λ rest. AreBoth AreAlike (else_at line s) (and_then (other_part line rest) (λ branches. Ok (record t { branches = branches })))) h.branches
    (then_both AreAlike (other_part line s.branches) _ _ (with_branches s t h))

endif_alike : (line : ℕ) (s t : SourceState) → AreAlike s t → AreBoth AreAlike (endif_at line s) (endif_at line t)
endif_alike line s t h =
    subst (λ rest. AreBoth AreAlike (endif_at line s) (and_then (without_innermost line rest) (λ branches. Ok (record t { branches = branches })))) h.branches
    (then_both AreAlike (without_innermost line s.branches) _ _ (with_branches s t h))

included_alike : (line : ℕ) (s t : SourceState) (list : Option (List Definition)) → AreAlike s t → AreBoth AreAlike (included line s list) (included line t list)
included_alike line s t None h = refl
included_alike line s t (Some list) h = record { same = same_with_all list s.definitions t.definitions h.same; branches = h.branches; out = h.out }

-- the place stays
staying : (r q : Result SourceState Refusal) (spot : Spot) → AreBoth AreAlike r q → AreBoth AreSteps (and_then r (λ after. Ok (after, spot))) (and_then q (λ after. Ok (after, spot)))
staying r q spot h = then_alike AreAlike AreSteps r q _ _ h (λ a b k. (k, refl))

module _ (lent : Dbref → Option (List Definition)) where
  include_alike : (line : ℕ) (s t : SourceState) (spot : Spot) → AreAlike s t → AreBoth AreSteps (include_at lent line s spot) (include_at lent line t spot)
  include_alike line s t spot h = then_both AreSteps (name_behind line spot) _ _ (λ n. then_both AreSteps (included_object line n (token_kind n.name)) _ _ (λ d. staying (included line s (lent d)) (included line t (lent d)) n.behind (included_alike line s t (lent d) h)))

  directed_alike : (line : ℕ) (directive : Option Directive) (s t : SourceState) (spot : Spot) → AreAlike s t → AreBoth AreSteps (directed lent line directive s spot) (directed lent line directive t spot)
  directed_alike line None s t spot h = refl
  directed_alike line (Some Def) s t spot h = def_alike line s t spot h
  directed_alike line (Some Define) s t spot h = define_alike line s t spot h
  directed_alike line (Some Undef) s t spot h = undef_alike line s t spot h
  directed_alike line (Some Ifdef) s t spot h = conditional_alike true line s t spot h
  directed_alike line (Some Ifndef) s t spot h = conditional_alike false line s t spot h
  directed_alike line (Some Else) s t spot h = staying _ _ spot (else_alike line s t h)
  directed_alike line (Some Endif) s t spot h = staying _ _ spot (endif_alike line s t h)
  directed_alike line (Some Include) s t spot h = include_alike line s t spot h

  passed_alike : (line : ℕ) (directive : Option Directive) (s t : SourceState) → AreAlike s t → AreBoth AreAlike (word_passed line directive s) (word_passed line directive t)
  passed_alike line None s t h = h
  passed_alike line (Some Def) s t h = h
  passed_alike line (Some Define) s t h = h
  passed_alike line (Some Undef) s t h = h
  passed_alike line (Some Ifdef) s t h = record { same = h.same; branches = ap (λ rest. record { line = line; taken = false; other = Some false } ∷ rest) h.branches; out = h.out }
  passed_alike line (Some Ifndef) s t h = record { same = h.same; branches = ap (λ rest. record { line = line; taken = false; other = Some false } ∷ rest) h.branches; out = h.out }
  passed_alike line (Some Else) s t h = else_alike line s t h
  passed_alike line (Some Endif) s t h = endif_alike line s t h
  passed_alike line (Some Include) s t h = h

  put_alike : (line : ℕ) (piece : Piece) (s t : SourceState) → AreAlike s t → AreBoth AreAlike (put_out line piece s) (put_out line piece t)
  put_alike line piece s t h =
      let put : expanded depth_most s.definitions line piece s.out ≡ expanded depth_most t.definitions line piece t.out =
      expanded_alike depth_most s.definitions t.definitions h.same.mean line piece s.out ∙ ap (expanded depth_most t.definitions line piece) h.out in
      subst (λ r. AreBoth AreAlike (put_out line piece s) (and_then r (λ out. Ok (record t { out = out })))) put
      (then_both AreAlike (expanded depth_most s.definitions line piece s.out) _ _ (λ out. record { same = h.same; branches = h.branches; out = refl }))

  skipped_alike : (line : ℕ) (piece : Piece) (s t : SourceState) → AreAlike s t → AreBoth AreAlike (skipped line piece s) (skipped line piece t)
  skipped_alike line (Word word) s t h = passed_alike line (directive_of word) s t h
  skipped_alike line (Text text) s t h = h
  skipped_alike line (Broken kind) s t h = h

  either : (b : Bool) (r q u v : Step) → AreBoth AreSteps r q → AreBoth AreSteps u v → AreBoth AreSteps (cond b r u) (cond b q v)
  either true r q u v h k = h
  either false r q u v h k = k

  taken_alike : (line : ℕ) (piece : Piece) (s t : SourceState) (spot : Spot) → AreAlike s t → AreBoth AreSteps (piece_taken lent line piece s spot) (piece_taken lent line piece t spot)
  taken_alike line (Word word) s t spot h = either (is_directive word) _ _ _ _ (directed_alike line (directive_of word) s t spot h) (staying _ _ spot (put_alike line (Word word) s t h))
  taken_alike line (Text text) s t spot h = staying _ _ spot (put_alike line (Text text) s t h)
  taken_alike line (Broken kind) s t spot h = staying _ _ spot (put_alike line (Broken kind) s t h)

  stepped_alike : (line : ℕ) (piece : Piece) (s t : SourceState) (spot : Spot) → AreAlike s t → AreBoth AreSteps (piece_stepped lent line piece s spot) (piece_stepped lent line piece t spot)
  unfolding piece_stepped
  stepped_alike line piece s t spot h =
      subst (λ rest. AreBoth AreSteps (piece_stepped lent line piece s spot) (cond (is_taking rest) (piece_taken lent line piece t spot) (and_then (skipped line piece t) (λ after. Ok (after, spot))))) h.branches
      (either (is_taking s.branches) _ _ _ _ (taken_alike line piece s t spot h) (staying _ _ spot (skipped_alike line piece s t h)))

  -- ---- words

  behind_alike : (next : SourceState → Spot → Result (List Token) Refusal) → ((s t : SourceState) (spot : Spot) → AreAlike s t → next s spot ≡ next t spot) → (r q : Step) → AreBoth AreSteps r q
      → and_then r (λ p. next p.0 p.1) ≡ and_then q (λ p. next p.0 p.1)
  behind_alike next k (Ok p) (Ok q) h = k p.0 q.0 p.1 h.0 ∙ ap (next q.0) h.1
  behind_alike next k (Err e) (Err f) h = ap (λ x. Err x) h
  behind_alike next k (Ok p) (Err f) h = absurd h
  behind_alike next k (Err e) (Ok q) h = absurd h

  front_alike : (next : SourceState → Spot → Result (List Token) Refusal) → ((s t : SourceState) (spot : Spot) → AreAlike s t → next s spot ≡ next t spot) → (f : Front) (s t : SourceState) → AreAlike s t
      → at_front lent next s f ≡ at_front lent next t f
  front_alike next k ended s t h = ap (λ out. words_unless out.words (outermost s.branches)) h.out ∙ ap (λ rest. words_unless t.out.words (outermost rest)) h.branches
  front_alike next k (broken line kind) s t h = refl
  front_alike next k (found line piece there text) s t h = behind_alike next k _ _ (stepped_alike line piece s t (record { line = there; text = text }) h)

  within_alike : (most : ℕ) (s t : SourceState) (spot : Spot) → AreAlike s t → words_within lent most s spot ≡ words_within lent most t spot
  within_alike zero s t spot h = refl
  within_alike (suc most) s t spot h = front_alike (words_within lent most) (within_alike most) (piece_ahead None spot.line spot.text) s t h

  pub words_alike : (s t : SourceState) (spot : Spot) → AreAlike s t → words_from lent s spot ≡ words_from lent t spot
  unfolding words_from
  words_alike s t spot h = within_alike (suc (length spot.text)) s t spot h
