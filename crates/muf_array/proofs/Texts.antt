-- The texts of values, joined.
use Rattle.std.proofs.Common.{◌≡◌, ◌∙◌, ap, sym, refl, ℕ, zero, suc, ◌+◌, ◌<◌, ◌≤◌, Bool, true, false, List, [], ◌∷◌, ◌++◌, length, map, drop, Some, None, arith}
use Rattle.std.specs.Prelude.{Option, is_some, slice_get}
use Rattle.std.specs.Option.{unwrap_or}
use Rattle.std.proofs.lemmas.List.{length-map, append_assoc, append-nil}
use Rattle.muf_model.specs.declared.value.MapKey.{MapKey}
use Rattle.muf_model.specs.Datum.{Datum}
use Rattle.muf_model.specs.Texts.{texts_joined}
use Rattle.muf_model.specs.ArrayRows.{item_word, words_of, onto}
use Rattle.muf_model.proofs.FaultTexts.{inside-append}
use Rattle.prim_text.proofs.Texts.{to_inside, inside_number}
use Rattle.muf_array.specs.inner.Shapes.{text_in, led, lead}

-- texts from a place on, behind those before it
abbrev pub left_of : List ℕ → ℕ → List (List ℕ) → List ℕ
left_of s zero ts = texts_joined s ts
left_of s (suc n) ts = led s (drop (suc n) ts)

first_led : (s t : List ℕ) (ts : List (List ℕ)) → texts_joined s (t ∷ ts) ≡ t ++ led s ts
first_led s t [] = sym (append-nil t)
first_led s t (u ∷ ts) = ap (λ r. t ++ (s ++ r)) (first_led s u ts)

pub join_more : (s : List ℕ) (at : ℕ) (ts : List (List ℕ)) (t : List ℕ) → slice_get ts at ≡ Some t → left_of s at ts ≡ (lead s at ++ t) ++ left_of s (at + 1) ts
join_more s at [] t e = absurd (let no : None ≡ Some t = e in cc)
join_more s zero (u ∷ ts) t e = let q : u ≡ t = cc in ap (λ v. texts_joined s (v ∷ ts)) q ∙ first_led s t ts
join_more s (suc at) (u ∷ ts) t e = let z : suc at + 1 ≡ suc (at + 1) = omega arith in rw z (led_more s at ts t e) where
  led_more : (s : List ℕ) (at : ℕ) (ts : List (List ℕ)) (t : List ℕ) → slice_get ts at ≡ Some t → led s (drop at ts) ≡ (s ++ t) ++ led s (drop (at + 1) ts)
  led_more s at [] t e = absurd (let no : None ≡ Some t = e in cc)
  led_more s zero (u ∷ ts) t e = let q : u ≡ t = cc in ap (λ v. s ++ (v ++ led s ts)) q ∙ sym (append_assoc s t (led s ts))
  led_more s (suc at) (u ∷ ts) t e = let z : suc at + 1 ≡ suc (at + 1) = omega arith in rw z (led_more s at ts t e)

pub join_end : (s : List ℕ) (at : ℕ) (ts : List (List ℕ)) → slice_get ts at ≡ None → left_of s at ts ≡ []
join_end s zero [] e = refl
join_end s (suc at) [] e = refl
join_end s zero (u ∷ ts) e = absurd (let no : Some u ≡ None = e in cc)
join_end s (suc at) (u ∷ ts) e = led_end s at ts e where
  led_end : (s : List ℕ) (at : ℕ) (ts : List (List ℕ)) → slice_get ts at ≡ None → led s (drop at ts) ≡ []
  led_end s zero [] e = refl
  led_end s (suc at) [] e = refl
  led_end s zero (u ∷ ts) e = absurd (let no : Some u ≡ None = e in cc)
  led_end s (suc at) (u ∷ ts) e = led_end s at ts e

-- ---- whether all have texts

pub words_more : (es : List (MapKey × Datum)) (at : ℕ) (d : Datum) → slice_get (map (λ e. e.1) es) at ≡ Some d → is_some (item_word d) ≡ true → is_some (words_of (drop at es)) ≡ is_some (words_of (drop (at + 1) es))
words_more [] at d e h = absurd (let no : None ≡ Some d = e in cc)
words_more ((k, x) ∷ es) zero d e h = let q : x ≡ d = cc in rw q (either (item_word d) (words_of es) h) where
  either : (o : Option (List ℕ)) (r : Option (List (List ℕ))) → is_some o ≡ true → is_some (onto o r) ≡ is_some r
  either (Some t) (Some ts) h = refl
  either (Some t) None h = refl
  either None r h = absurd (let no : false ≡ true = h in cc)
words_more ((k, x) ∷ es) (suc at) d e h = let z : suc at + 1 ≡ suc (at + 1) = omega arith in rw z (words_more es at d e h)

pub words_stop : (es : List (MapKey × Datum)) (at : ℕ) (d : Datum) → slice_get (map (λ e. e.1) es) at ≡ Some d → is_some (item_word d) ≡ false → is_some (words_of (drop at es)) ≡ false
words_stop [] at d e h = absurd (let no : None ≡ Some d = e in cc)
words_stop ((k, x) ∷ es) zero d e h = let q : x ≡ d = cc in rw q (neither (item_word d) (words_of es) h) where
  neither : (o : Option (List ℕ)) (r : Option (List (List ℕ))) → is_some o ≡ false → is_some (onto o r) ≡ false
  neither (Some t) r h = absurd (let no : true ≡ false = h in cc)
  neither None r h = refl
words_stop ((k, x) ∷ es) (suc at) d e h = words_stop es at d e h

pub words_end : (es : List (MapKey × Datum)) (at : ℕ) → slice_get (map (λ e. e.1) es) at ≡ None → is_some (words_of (drop at es)) ≡ true
words_end [] zero e = refl
words_end [] (suc at) e = refl
words_end (x ∷ es) zero e = absurd (let no : Some x.1 ≡ None = e in cc)
words_end (x ∷ es) (suc at) e = words_end es at e

words_by : (o : Option (List ℕ)) (r : Option (List (List ℕ))) (ts : List (List ℕ)) → (is_some r ≡ true → r ≡ Some ts) → is_some (onto o r) ≡ true → onto o r ≡ Some (unwrap_or o [] ∷ ts)
words_by (Some t) (Some us) ts i h = let q : Some us ≡ Some ts = i refl in let r : us ≡ ts = cc in ap (λ vs. Some (t ∷ vs)) r
words_by (Some t) None ts i h = absurd (let no : false ≡ true = h in cc)
words_by None r ts i h = absurd (let no : false ≡ true = h in cc)

-- and then these are they
pub words_are : (es : List (MapKey × Datum)) → is_some (words_of es) ≡ true → words_of es ≡ Some (map text_in (map (λ e. e.1) es))
words_are [] h = refl
words_are ((k, x) ∷ es) h = words_by (item_word x) (words_of es) (map text_in (map (λ e. e.1) es)) (λ g. words_are es g) h

pub ruleset all_steps = (length-map)

pub ruleset number_steps = (inside_number, inside-append)

pub ruleset text_steps = (to_inside, inside-append)

pub ruleset join_steps = (to_inside, inside-append)

pub ruleset held_steps = (words_are, length-map)
