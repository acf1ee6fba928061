-- `;`: a word more, which begins where the others end, and ends behind its last instruction.
use Rattle.std.proofs.Common.{◌≡◌, ℕ, ◌+◌, List, [], ◌∷◌, ◌++◌, length, refl, sym, ap, subst, arith, length-append}
use Rattle.muf_model.specs.declared.code.Closer.TheVariants as closer
use Rattle.muf_model.specs.declared.code.Instr.TheVariants.{Close}
use Rattle.muf_model.specs.declared.code.Placed.{Placed}
use Rattle.muf_model.specs.declared.code.CodeWord.{CodeWord}
use Rattle.muf_model.specs.Tree.{Definition}
use Rattle.muf_model.specs.inner.Stands.{Stands, WordsStand, WordStands, InRow}
use Rattle.muf_model.proofs.Standing.{Extends, stands_map, stands_kept, words_kept, row_kept}
use Rattle.muf_compile.specs.Growth as growth
use Rattle.muf_compile.specs.Growth.{Growth}
use Rattle.muf_compile.specs.inner.Built.{Built}
use Rattle.muf_compile.specs.inner.Build as building
use Rattle.muf_compile.specs.inner.Fits.{From, outermost, MadeAlike}
use Rattle.muf_compile.proofs.Extending.{get_end, extends_append}

word_stands_last : (code : List Placed) (ws : List CodeWord) (ds : List Definition) (w : CodeWord) (d : Definition) → WordsStand code ws ds → WordStands code w d → WordsStand code (ws ++ w ∷ []) (ds ++ d ∷ [])
word_stands_last code [] [] w d h k = (k, tt)
word_stands_last code (v ∷ ws) (e ∷ ds) w d h k = (h.0, word_stands_last code ws ds w d h.1 k)
word_stands_last code _ _ w d h k = absurd h

-- it begins where the others end, and ends behind its `;`
row_last : (code : List Placed) (ws : List CodeWord) (ds : List Definition) (place end : ℕ) (w : CodeWord) (d : Definition) → InRow code place ws ds w.start → Stands code w.start d.body (λ p. p + 1 ≡ end) → InRow code place (ws ++ w ∷ []) (ds ++ d ∷ []) end
row_last code [] [] place end w d h k = (sym h, subst (λ p. Stands code p d.body (λ q. q + 1 ≡ end)) (sym h) k)
row_last code (v ∷ ws) (e ∷ ds) place end w d h k = (h.0, stands_map code e.body place _ _ (λ p r. row_last code ws ds (p + 1) end w d r k) h.1)
row_last code _ _ place end w d h k = absurd h

pub word_ends : (b : Built) (g : Growth) → WordsStand b.code b.words g.words → InRow b.code 0 b.words g.words b.start → b.title ≡ g.title → (line n : ℕ) → From b.code b.start g.now (length b.code) → MadeAlike (building.end_code line n b []) (growth.end_part line n g [])
word_ends b g fit row named line n items =
    let y : Placed = record { line = line; instr = Close closer.Semicolon } in
    let len : length (b.code ++ y ∷ []) ≡ length b.code + 1 = length-append b.code (y ∷ []) in
    let x : Extends b.code (b.code ++ y ∷ []) = extends_append b.code _ in
    record {
      start = length b.code + 1;
      items = sym len;
      within = omega arith;
      opens = outermost;
      words =
          word_stands_last _ b.words g.words _ _ (words_kept b.code _ x b.words g.words fit)
          (record { name = named; offer = refl; variables = refl; body = stands_kept b.code _ x g.now b.start _ _ (λ p e. rw e (get_end b.code y)) items });
      row = row_last _ b.words g.words 0 (length b.code + 1) _ _ (row_kept b.code _ x b.words g.words 0 b.start row) (stands_kept b.code _ x g.now b.start _ _ (λ p e. ap (λ n. n + 1) e) items);
      title = named;
    }
