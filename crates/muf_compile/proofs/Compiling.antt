-- The pass over the words of a source goes as its tree grows.
use Rattle.std.proofs.Common.{◌≡◌, ℕ, zero, suc, ◌+◌, ◌<◌, ◌≤◌, List, [], ◌∷◌, ◌++◌, length, refl, sym, ap, subst, ◌∙◌, arith, drop, get_or, add-one}
use Rattle.std.specs.Prelude.{Result, Ok, Err, IfOk}
use Rattle.std.proofs.Math.Seq.{drop-cons}
use Rattle.muf_model.specs.declared.code.Placed.{Placed}
use Rattle.muf_model.specs.declared.code.CodeWord.{CodeWord}
use Rattle.muf_model.specs.declared.code.Code.{Code}
use Rattle.muf_model.specs.Tree.{if_word, begin_word, stop, Definition, Tree}
use Rattle.muf_model.specs.inner.Decode as decode
use Rattle.muf_model.specs.inner.Nesting.{NestedWords}
use Rattle.muf_model.proofs.Unique.{tree_read}
use Rattle.muf_model.specs.inner.Stands.{WordsStand, InRow, TreeStands}
use Rattle.muf_token.specs.declared.token.Token.{Token}
use Rattle.muf_compile.specs.declared.names.Mode.{Mode}
use Rattle.muf_compile.specs.declared.names.Mode.TheVariants as mode
use Rattle.muf_compile.specs.declared.hole.Pending.{Pending}
use Rattle.muf_compile.specs.declared.fault.CompileKind.TheVariants.{NoWord}
use Rattle.muf_compile.specs.declared.fault.Refusal.{Refusal}
use Rattle.muf_compile.specs.declared.fault.CompileFault.{CompileFault}
use Rattle.muf_compile.specs.declared.fault.CompileFault.TheVariants.{Refused, NoMemory}
use Rattle.muf_compile.specs.Acts.{cost_of}
use Rattle.muf_compile.specs.Faults.{and_then, Leads, Answers}
use Rattle.muf_compile.specs.Reading.{Known, Read}
use Rattle.muf_compile.specs.Growth as growth
use Rattle.muf_compile.specs.Growth.{Unfinished, first, Growth, Grown, grow, units_added, units_most, Draft, token_step, tree_from, finished, finished_in, empty_draft, tree_of}
use Rattle.muf_compile.specs.inner.Grammar.{IsProgram}
use Rattle.muf_compile.specs.inner.Built.{Built}
use Rattle.muf_compile.specs.inner.Build as building
use Rattle.muf_compile.specs.inner.Build.{Made, build}
use Rattle.muf_compile.specs.inner.Fits.{From, OpensFit, outermost, in_first, in_second, in_turn, BuiltFits, MadeAlike, IsCode}
use Rattle.muf_compile.specs.inner.Compiled.{Compiled, compiled_step, compiled_end, whole_code, nothing_compiled}
use Rattle.muf_compile.proofs.Growing.{growing}
use Rattle.muf_compile.proofs.Nesting.{declared_nested}
use Rattle.muf_compile.proofs.Spelling.{Spelt, between, DraftSpelt, IsSpelt, spelt_step, spelt_empty, TreeWritten, tree_written}

-- what is compiled so far stands for a draft
pub record CompiledFits (c : Compiled) (d : Draft) : Type 0 where
  pub known : c.known ≡ d.known
  pub built : BuiltFits c.built d.growth
  pub units : c.units ≡ d.units

abbrev StepAlike : Result Compiled Refusal → Result Draft Refusal → Type 0
StepAlike (Ok c) (Ok d) = CompiledFits c d
StepAlike (Err r) (Err s) = r ≡ s
StepAlike (Ok c) (Err s) = ⊥
StepAlike (Err r) (Ok d) = ⊥

as_many : (code : List Placed) (ws : List CodeWord) (ds : List Definition) → WordsStand code ws ds → length ws ≡ length ds
as_many code [] [] h = refl
as_many code (w ∷ ws) (d ∷ ds) h = ap suc (as_many code ws ds h.1)
as_many code _ _ h = absurd h

after_count : (k : Known) (b : Built) (g : Growth) → BuiltFits b g → (n : Result ℕ Refusal) → StepAlike (and_then n (λ m. Ok (record { known = k; built = b; units = m }))) (and_then n (λ m. Ok (record { known = k; growth = g; units = m })))
after_count k b g f (Ok n) = record { known = refl; built = f; units = refl }
after_count k b g f (Err r) = refl

after_build : (k : Known) (n : Result ℕ Refusal) (m : Made) (g : Grown) → MadeAlike m g → StepAlike (and_then m (λ b. and_then n (λ m. Ok (record { known = k; built = b; units = m })))) (and_then g (λ h. and_then n (λ m. Ok (record { known = k; growth = h; units = m }))))
after_build k n (Ok b) (Ok g) h = after_count k b g h n
after_build k n (Err r) (Err s) h = h
after_build k n _ _ h = absurd h

after_read : (b : Built) (g : Growth) (units : ℕ) → BuiltFits b g → (r : Read)
    → StepAlike
    (and_then r (λ p. and_then (build p.1.line p.1.act b) (λ b. and_then (units_added p.1.line (cost_of p.1.act) units) (λ n. Ok (record { known = p.0; built = b; units = n })))))
    (and_then r (λ p. and_then (grow p.1.line p.1.act g) (λ g. and_then (units_added p.1.line (cost_of p.1.act) units) (λ n. Ok (record { known = p.0; growth = g; units = n })))))
after_read b g units f (Ok p) = after_build p.0 (units_added p.1.line (cost_of p.1.act) units) (build p.1.line p.1.act b) (grow p.1.line p.1.act g) (growing p.1.line p.1.act b g f)
after_read b g units f (Err r) = refl

-- a word more
step_alike : (t : Token) (c : Compiled) (d : Draft) → CompiledFits c d → StepAlike (compiled_step t c) (token_step t d)
step_alike t c d f =
    let same : length c.built.words ≡ length d.growth.words = as_many c.built.code c.built.words d.growth.words f.built.words in
    rw (same, f.known, f.units) (after_read c.built d.growth d.units f.built _)

is_refused : (t : Result Tree Refusal) (r : Refusal) → t ≡ Err r → IsCode t (Err (Refused r))
is_refused (Ok tree) r h = h
is_refused (Err s) r h = h

is_wanting : (t : Result Tree Refusal) → IsCode t (Err NoMemory)
is_wanting (Ok tree) = tt
is_wanting (Err r) = tt

-- some words of a source have led to the draft
pub record WasSpelt (d : Draft) : Type 0 where
  pub before : List Token
  pub spelt : IsSpelt before d

-- nothing is compiled
pub starts : CompiledFits nothing_compiled empty_draft × WasSpelt empty_draft
starts = (
  record { known = refl; built = record { start = 0; items = refl; within = omega arith; opens = outermost; words = tt; row = refl; title = refl }; units = refl },
  record { before = []; spelt = spelt_empty },
)

-- one word more
pub takes : (t : Token) (ts : List Token) (last : ℕ) (c new : Compiled) (d : Draft) → CompiledFits c d → WasSpelt d → compiled_step t c ≡ Ok new → (e : Draft) × CompiledFits new e × WasSpelt e × (tree_from last (t ∷ ts) d ≡ tree_from t.line ts e)
takes t ts last c new d f p e = from_alike (token_step t d) (subst (λ r. StepAlike r (token_step t d)) e (step_alike t c d f)) (spelt_step t p.before d p.spelt)
  where
    from_alike : (r : Result Draft Refusal) → StepAlike (Ok new) r → DraftSpelt (p.before ++ t ∷ []) r → (e : Draft) × CompiledFits new e × WasSpelt e × (and_then r (tree_from t.line ts) ≡ tree_from t.line ts e)
    from_alike (Ok q) h l = (q, h, record { before = p.before ++ t ∷ []; spelt = l }, refl)
    from_alike (Err r) h l = absurd h

-- a word that is refused
refuses : (t : Token) (ts : List Token) (last : ℕ) (c : Compiled) (r : Refusal) (d : Draft) → CompiledFits c d → compiled_step t c ≡ Err r → tree_from last (t ∷ ts) d ≡ Err r
refuses t ts last c r d f e = from_alike (token_step t d) (subst (λ m. StepAlike m (token_step t d)) e (step_alike t c d f))
  where
    from_alike : (m : Result Draft Refusal) → StepAlike (Err r) m → and_then m (tree_from t.line ts) ≡ Err r
    from_alike (Ok q) h = absurd h
    from_alike (Err s) h = ap (λ x. Err x) (sym h)

pub take_refused : (t : Token) (ts : List Token) (last : ℕ) (c new : Compiled) (fault : CompileFault) (d : Draft) → CompiledFits c d → Leads {B = Unit {0}} (compiled_step t c) (Err fault) new → IsCode (tree_from last (t ∷ ts) d) (Err fault)
take_refused t ts last c new (Refused r) d f h = is_refused (tree_from last (t ∷ ts) d) r (refuses t ts last c r d f h)
take_refused t ts last c new NoMemory d f h = is_wanting (tree_from last (t ∷ ts) d)

kinds_alike : {code : List Placed} {begin : ℕ} {us : List Unfinished} {os : List Pending} {start : ℕ} → OpensFit code begin us os start → building.misfit NoWord os ≡ growth.misfit NoWord us
kinds_alike (in_first {k = if_word} at h le u o) = refl
kinds_alike (in_second {k = if_word} at h le lt f c u o) = refl
kinds_alike (in_turn {k = begin_word} at h le u o) = refl
kinds_alike _ = refl

-- the code at the end stands for the tree, or is refused as it is
abbrev EndAlike : Result Code Refusal → Result Tree Refusal → Type 0
EndAlike (Ok code) (Ok tree) = TreeStands code tree
EndAlike (Err r) (Err s) = r ≡ s
EndAlike (Ok code) (Err s) = ⊥
EndAlike (Err r) (Ok tree) = ⊥

whole_alike : (last n : ℕ) (code : List Placed) (ws : List CodeWord) (ds : List Definition) → WordsStand code ws ds → InRow code 0 ws ds (length code) → NestedWords ds → EndAlike (whole_code last n code ws) (growth.whole_tree last n ds)
whole_alike last n code [] [] h r k = refl
whole_alike last n code (w ∷ ws) (d ∷ ds) h r k = record { variables = refl; words = h; row = r; nested = k }
whole_alike last n code _ _ h r k = absurd h

-- where nothing is open, the innermost part is the word's
starts_word : {code : List Placed} {begin : ℕ} {us : List Unfinished} {os : List Pending} {start : ℕ} → OpensFit code begin us os start → us ≡ [] → start ≡ begin
starts_word outermost e = refl
starts_word _ e = cc

-- between words the next one begins at the end of the code
row_ends : (b : Built) (g : Growth) → BuiltFits b g → g.now ≡ stop → g.around ≡ [] → InRow b.code 0 b.words g.words (length b.code)
row_ends b g f now around =
    let items = subst (λ block. From b.code f.start block (length b.code)) now f.items in
    subst (InRow b.code 0 b.words g.words) (sym (starts_word f.opens around) ∙ items) f.row

end_alike : (m : Mode) (last : ℕ) (c : Compiled) (d : Draft) (ts : List Token) → CompiledFits c d → Spelt d.known d.growth ts m → EndAlike (compiled_end m last c) (finished_in m last d)
end_alike mode.Outside last c d ts f (between h) = rw f.known (whole_alike last d.known.variables c.built.code c.built.words d.growth.words f.built.words (row_ends c.built d.growth f.built h.now h.around) (declared_nested h.declares))
end_alike mode.Inside last c d ts f s = ap (λ k. record { line = last; kind = k }) (kinds_alike f.built.opens)
end_alike _ last c d ts f s = refl

-- the end of the words
pub ends : (last : ℕ) (c : Compiled) (d : Draft) (result : Result Code CompileFault) → CompiledFits c d → WasSpelt d → Answers (compiled_end c.known.mode last c) result → IsCode (finished last d) result
ends last c d result f p a = answered (compiled_end c.known.mode last c) (finished last d) result (subst (λ (k : Known). EndAlike (compiled_end k.mode last c) (finished last d)) (sym f.known) (end_alike d.known.mode last c d p.before f p.spelt.spelt)) a
  where
    answered : (s : Result Code Refusal) (t : Result Tree Refusal) (r : Result Code CompileFault) → EndAlike s t → Answers s r → IsCode t r
    answered s t (Err NoMemory) h a = is_wanting t
    answered (Ok code) (Ok tree) (Ok x) h a = let e : code ≡ x = cc in subst (λ y. TreeStands y tree) e h
    answered (Ok code) (Ok tree) (Err (Refused r)) h a = cc
    answered (Err s) (Err t) (Ok x) h a = cc
    answered (Err s) (Err t) (Err (Refused r)) h a = let e : s ≡ r = cc in ap (λ x. Err x) (sym h ∙ e)
    answered (Ok code) (Err t) r h a = absurd h
    answered (Err s) (Ok tree) r h a = absurd h

-- The same at a place of the words.
module _ (items ts : List Token) (same : items ≡ ts) (n last : ℕ) (t : Token) (within : n < length items) (here : t ≡ get_or items n t) (d : Draft) (whole : Result Tree Refusal) (rest : whole ≡ tree_from last (drop n ts) d) where
  at_place : whole ≡ tree_from last (t ∷ drop (n + 1) ts) d
  at_place =
      let inside : n < length ts = subst (λ l. n < length l) same within in
      let first : get_or ts n t ≡ t = sym (here ∙ ap (λ l. get_or l n t) same) in
      rest ∙ ap (λ r. tree_from last r d) (drop-cons ts n t inside ∙ ap (λ k. get_or ts n t ∷ drop k ts) (sym (add-one n)) ∙ ap (λ x. x ∷ drop (n + 1) ts) first)

  pub takes_at : (c new : Compiled) → CompiledFits c d → WasSpelt d → compiled_step t c ≡ Ok new → (e : Draft) × CompiledFits new e × WasSpelt e × (whole ≡ tree_from t.line (drop (n + 1) ts) e)
  takes_at c new f p b =
      let g = takes t (drop (n + 1) ts) last c new d f p b in
      (g.0, g.1, g.2, at_place ∙ g.3)

  pub refused_at : (c new : Compiled) (fault : CompileFault) → CompiledFits c d → Leads {B = Unit {0}} (compiled_step t c) (Err fault) new → IsCode whole (Err fault)
  refused_at c new fault f b = subst (λ w. IsCode w (Err fault)) (sym at_place) (take_refused t (drop (n + 1) ts) last c new fault d f b)

drop-all : (ts : List Token) (n : ℕ) → length ts ≤ n → drop n ts ≡ []
drop-all [] zero h = refl
drop-all [] (suc n) h = refl
drop-all (t ∷ ts) zero h = absurd (omega arith)
drop-all (t ∷ ts) (suc n) h = drop-all ts n (omega arith)

-- at the end of the words
pub ends_at : (items ts : List Token) → items ≡ ts → (n last : ℕ) (c : Compiled) (d : Draft) (whole : Result Tree Refusal) (result : Result Code CompileFault) → length items ≤ n → CompiledFits c d → WasSpelt d → whole ≡ tree_from last (drop n ts) d → Answers (compiled_end c.known.mode last c) result → IsCode whole result
ends_at items ts same n last c d whole result h f p e a =
    let past : length ts ≤ n = subst (λ l. length l ≤ n) same h in
    subst (λ w. IsCode w result) (sym (e ∙ ap (λ r. tree_from last r d) (drop-all ts n past))) (ends last c d result f p a)

-- there are few words and instructions
pub few_words : (c : Compiled) (d : Draft) → CompiledFits c d → WasSpelt d → length c.built.words ≤ 65536
unfolding units_most
few_words c d f s =
    let same : length c.built.words ≡ length d.growth.words = as_many c.built.code c.built.words d.growth.words f.built.words in
    let w = s.spelt.words in
    let u = s.spelt.units in
    omega arith

pub few_units : (c : Compiled) (d : Draft) → CompiledFits c d → WasSpelt d → c.units ≤ 65536
unfolding units_most
few_units c d f s = let e = f.units in let u = s.spelt.units in omega arith

-- the tree that code stands for is written in the words that it was compiled from
pub code_written : (ts : List Token) (result : Result Code CompileFault) → IsCode (tree_of ts) result → IfOk result (λ code. IsProgram ts (decode.tree_of code))
code_written ts (Err fault) h = tt
code_written ts (Ok code) h = by (tree_of ts) (tree_written ts) h
  where
    by : (r : Result Tree Refusal) → TreeWritten ts r → IsCode r (Ok code) → IsProgram ts (decode.tree_of code)
    by (Ok tree) w h = subst (IsProgram ts) (sym (tree_read code tree h)) w
    by (Err r) w h = absurd h
