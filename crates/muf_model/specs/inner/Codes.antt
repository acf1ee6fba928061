-- How values, blocks and ends are told apart: each as the list of its pieces, those that hold others before those.
use Rattle.std.specs.Prelude.{◌≡◌, ℕ, ℤ, pos, List, [], ◌∷◌, cond, ◌==◌, refl}
use Rattle.std.proofs.Common.{ap, ◌∙◌}
use Rattle.std.specs.Coded.{Coded, code_by, coded×, coded_ℕ, coded_ℤ, coded_list}
use Rattle.muck_model.specs.contracts.lock.Lock as lock_type
use Rattle.muck_model.specs.declared.lock.Lock.{Lock}
use Rattle.muck_model.specs.declared.lock.Lock.TheVariants.{Free}
use Rattle.muf_model.specs.contracts.value.MapKey as key_type
use Rattle.muf_model.specs.declared.value.MapKey.{MapKey}
use Rattle.muf_model.specs.declared.value.MapKey.TheVariants.{Number, Name}
use Rattle.muf_model.specs.declared.code.Closer.{Closer}
use Rattle.muf_model.specs.declared.code.Closer.TheVariants.{Semicolon, Repeat, Until}
use Rattle.muf_model.specs.contracts.code.Word as word_type
use Rattle.muf_model.specs.declared.code.Word.{Word}
use Rattle.muf_model.specs.declared.code.Word.TheVariants.{Exit}
use Rattle.muf_model.specs.Datum.{Datum, int, text, object, variable, address, lock, items, dict, mark, Data, no_data, datum, Pairs, no_pairs, pair}
use Rattle.muf_model.specs.Tree.{Fork, if_word, try_word, Ring, begin_word, for_word, each_word, Block, stop, word, when, fork, ring, BlockEnd, closes, hops}

-- ---- values

-- what stands at the head of a value, of a list or of the pairs of a dictionary
pub data DatumPiece : Type 0 where
  an_int : ℤ → DatumPiece
  a_text : List ℕ → DatumPiece
  an_object : ℤ → DatumPiece
  a_variable : ℕ → DatumPiece
  an_address : ℤ → ℕ → DatumPiece
  a_lock : Lock → DatumPiece
  a_list : DatumPiece
  a_dict : DatumPiece
  a_mark : DatumPiece
  no_more : DatumPiece
  one_more : DatumPiece
  no_pair : DatumPiece
  number_pair : ℤ → DatumPiece
  name_pair : List ℕ → DatumPiece

-- a piece as a number of its kind, with a whole number, a number, a text and a lock
abbrev pub DatumParts : Type 0
DatumParts = ℕ × (ℤ × (ℕ × (List ℕ × Lock)))

abbrev pub datum_parts : DatumPiece → DatumParts
datum_parts (an_int n) = (0, (n, (0, ([], Free))))
datum_parts (a_text t) = (1, (pos 0, (0, (t, Free))))
datum_parts (an_object n) = (2, (n, (0, ([], Free))))
datum_parts (a_variable v) = (3, (pos 0, (v, ([], Free))))
datum_parts (an_address p w) = (4, (p, (w, ([], Free))))
datum_parts (a_lock l) = (5, (pos 0, (0, ([], l))))
datum_parts a_list = (6, (pos 0, (0, ([], Free))))
datum_parts a_dict = (7, (pos 0, (0, ([], Free))))
datum_parts a_mark = (8, (pos 0, (0, ([], Free))))
datum_parts no_more = (9, (pos 0, (0, ([], Free))))
datum_parts one_more = (10, (pos 0, (0, ([], Free))))
datum_parts no_pair = (11, (pos 0, (0, ([], Free))))
datum_parts (number_pair n) = (12, (n, (0, ([], Free))))
datum_parts (name_pair t) = (13, (pos 0, (0, (t, Free))))

abbrev pub datum_piece : DatumParts → DatumPiece
datum_piece p =
    cond (p.0 == 0) (an_int p.1.0) (cond (p.0 == 1) (a_text p.1.1.1.0) (cond (p.0 == 2) (an_object p.1.0) (cond (p.0 == 3) (a_variable p.1.1.0) (cond (p.0 == 4) (an_address p.1.0 p.1.1.0) (cond (p.0 == 5) (a_lock p.1.1.1.1) (cond (p.0 == 6) a_list (cond (p.0 == 7) a_dict (cond (p.0 == 8) a_mark (cond (p.0 == 9) no_more (cond (p.0 == 10) one_more (cond (p.0 == 11) no_pair (cond (p.0 == 12) (number_pair p.1.0) (name_pair p.1.1.1.0)))))))))))))

pub same_datum_piece : (p : DatumPiece) → datum_piece (datum_parts p) ≡ p
same_datum_piece (an_int n) = refl
same_datum_piece (a_text t) = refl
same_datum_piece (an_object n) = refl
same_datum_piece (a_variable v) = refl
same_datum_piece (an_address p w) = refl
same_datum_piece (a_lock l) = refl
same_datum_piece a_list = refl
same_datum_piece a_dict = refl
same_datum_piece a_mark = refl
same_datum_piece no_more = refl
same_datum_piece one_more = refl
same_datum_piece no_pair = refl
same_datum_piece (number_pair n) = refl
same_datum_piece (name_pair t) = refl

-- a value, a list and pairs, with the pieces that follow
abbrev mutual
  pub datum_written : Datum → List DatumPiece → List DatumPiece
  datum_written (int n) rest = an_int n ∷ rest
  datum_written (text t) rest = a_text t ∷ rest
  datum_written (object n) rest = an_object n ∷ rest
  datum_written (variable v) rest = a_variable v ∷ rest
  datum_written (address p w) rest = an_address p w ∷ rest
  datum_written (lock l) rest = a_lock l ∷ rest
  datum_written (items ds) rest = a_list ∷ data_written ds rest
  datum_written (dict ps) rest = a_dict ∷ pairs_written ps rest
  datum_written mark rest = a_mark ∷ rest

  pub data_written : Data → List DatumPiece → List DatumPiece
  data_written no_data rest = no_more ∷ rest
  data_written (datum d ds) rest = one_more ∷ datum_written d (data_written ds rest)

  pub pairs_written : Pairs → List DatumPiece → List DatumPiece
  pairs_written no_pairs rest = no_pair ∷ rest
  pairs_written (pair (Number n) d ps) rest = number_pair n ∷ datum_written d (pairs_written ps rest)
  pairs_written (pair (Name t) d ps) rest = name_pair t ∷ datum_written d (pairs_written ps rest)

-- what was read
pub data DatumShape : Type 0 where
  a_datum : Datum → DatumShape
  some_data : Data → DatumShape
  some_pairs : Pairs → DatumShape

-- a piece, before what was read behind it
abbrev pub datum_taken : DatumPiece → List DatumShape → List DatumShape
datum_taken (an_int n) shapes = a_datum (int n) ∷ shapes
datum_taken (a_text t) shapes = a_datum (text t) ∷ shapes
datum_taken (an_object n) shapes = a_datum (object n) ∷ shapes
datum_taken (a_variable v) shapes = a_datum (variable v) ∷ shapes
datum_taken (an_address p w) shapes = a_datum (address p w) ∷ shapes
datum_taken (a_lock l) shapes = a_datum (lock l) ∷ shapes
datum_taken a_list (some_data ds ∷ shapes) = a_datum (items ds) ∷ shapes
datum_taken a_dict (some_pairs ps ∷ shapes) = a_datum (dict ps) ∷ shapes
datum_taken a_mark shapes = a_datum mark ∷ shapes
datum_taken no_more shapes = some_data no_data ∷ shapes
datum_taken one_more (a_datum d ∷ some_data ds ∷ shapes) = some_data (datum d ds) ∷ shapes
datum_taken no_pair shapes = some_pairs no_pairs ∷ shapes
datum_taken (number_pair n) (a_datum d ∷ some_pairs ps ∷ shapes) = some_pairs (pair (Number n) d ps) ∷ shapes
datum_taken (name_pair t) (a_datum d ∷ some_pairs ps ∷ shapes) = some_pairs (pair (Name t) d ps) ∷ shapes
datum_taken _ shapes = []

abbrev pub datum_read : List DatumPiece → List DatumShape
datum_read [] = []
datum_read (p ∷ ps) = datum_taken p (datum_read ps)

abbrev pub first_datum : List DatumShape → Datum
first_datum (a_datum d ∷ shapes) = d
first_datum _ = mark

mutual
  pub datum_again : (d : Datum) (rest : List DatumPiece) → datum_read (datum_written d rest) ≡ a_datum d ∷ datum_read rest
  datum_again (int n) rest = refl
  datum_again (text t) rest = refl
  datum_again (object n) rest = refl
  datum_again (variable v) rest = refl
  datum_again (address p w) rest = refl
  datum_again (lock l) rest = refl
  datum_again (items ds) rest = ap (datum_taken a_list) (data_again ds rest)
  datum_again (dict ps) rest = ap (datum_taken a_dict) (pairs_again ps rest)
  datum_again mark rest = refl

  pub data_again : (ds : Data) (rest : List DatumPiece) → datum_read (data_written ds rest) ≡ some_data ds ∷ datum_read rest
  data_again no_data rest = refl
  data_again (datum d ds) rest =
      ap (datum_taken one_more) (datum_again d (data_written ds rest) ∙ ap (λ shapes. a_datum d ∷ shapes) (data_again ds rest))

  pub pairs_again : (ps : Pairs) (rest : List DatumPiece) → datum_read (pairs_written ps rest) ≡ some_pairs ps ∷ datum_read rest
  pairs_again no_pairs rest = refl
  pairs_again (pair (Number n) d ps) rest =
      ap (datum_taken (number_pair n)) (datum_again d (pairs_written ps rest) ∙ ap (λ shapes. a_datum d ∷ shapes) (pairs_again ps rest))
  pairs_again (pair (Name t) d ps) rest =
      ap (datum_taken (name_pair t)) (datum_again d (pairs_written ps rest) ∙ ap (λ shapes. a_datum d ∷ shapes) (pairs_again ps rest))

pub same_datum : (d : Datum) → first_datum (datum_read (datum_written d [])) ≡ d
same_datum d = ap first_datum (datum_again d [])

abbrev pub datum_code : Coded Datum
datum_code =
    code_by (List DatumPiece) (coded_list (code_by DatumParts (coded× coded_ℕ (coded× coded_ℤ (coded× coded_ℕ (coded× (coded_list coded_ℕ) lock_type.the_row.coded)))) datum_parts datum_piece same_datum_piece)) (λ d. datum_written d []) (λ ps. first_datum (datum_read ps)) same_datum

abbrev pub values_code : Coded (List Datum)
values_code = coded_list datum_code

abbrev pub entries_code : Coded (List (MapKey × Datum))
entries_code = coded_list (coded× key_type.the_row.coded datum_code)

-- ---- blocks and ends

-- what stands at the head of an item, of no item, or of an end
pub data BlockPiece : Type 0 where
  no_item : BlockPiece
  a_word : ℕ → Word → BlockPiece
  a_when : ℕ → BlockPiece
  a_fork : Fork → ℕ → ℕ → BlockPiece
  a_ring : Ring → ℕ → Closer → ℕ → BlockPiece
  a_closer : Closer → ℕ → BlockPiece
  a_hop : Fork → ℕ → BlockPiece

abbrev pub fork_number : Fork → ℕ
fork_number if_word = 0
fork_number try_word = 1

abbrev pub fork_of : ℕ → Fork
fork_of n = cond (n == 0) if_word try_word

pub same_fork : (k : Fork) → fork_of (fork_number k) ≡ k
same_fork if_word = refl
same_fork try_word = refl

abbrev pub ring_number : Ring → ℕ
ring_number begin_word = 0
ring_number for_word = 1
ring_number each_word = 2

abbrev pub ring_of : ℕ → Ring
ring_of n = cond (n == 0) begin_word (cond (n == 1) for_word each_word)

pub same_ring : (k : Ring) → ring_of (ring_number k) ≡ k
same_ring begin_word = refl
same_ring for_word = refl
same_ring each_word = refl

abbrev pub closer_number : Closer → ℕ
closer_number Semicolon = 0
closer_number Repeat = 1
closer_number Until = 2

abbrev pub closer_of_number : ℕ → Closer
closer_of_number n = cond (n == 0) Semicolon (cond (n == 1) Repeat Until)

pub same_closer : (c : Closer) → closer_of_number (closer_number c) ≡ c
same_closer Semicolon = refl
same_closer Repeat = refl
same_closer Until = refl

-- a piece as a number of its kind, with two lines, the numbers of a choice or loop and of a closer, and a word
abbrev pub BlockParts : Type 0
BlockParts = ℕ × (ℕ × (ℕ × (ℕ × (ℕ × Word))))

abbrev pub block_parts : BlockPiece → BlockParts
block_parts no_item = (0, (0, (0, (0, (0, Exit)))))
block_parts (a_word line w) = (1, (line, (0, (0, (0, w)))))
block_parts (a_when line) = (2, (line, (0, (0, (0, Exit)))))
block_parts (a_fork k line mid) = (3, (line, (mid, (fork_number k, (0, Exit)))))
block_parts (a_ring k line c last) = (4, (line, (last, (ring_number k, (closer_number c, Exit)))))
block_parts (a_closer c line) = (5, (line, (0, (0, (closer_number c, Exit)))))
block_parts (a_hop k line) = (6, (line, (0, (fork_number k, (0, Exit)))))

abbrev pub block_piece : BlockParts → BlockPiece
block_piece p =
    cond (p.0 == 0) no_item (cond (p.0 == 1) (a_word p.1.0 p.1.1.1.1.1) (cond (p.0 == 2) (a_when p.1.0) (cond (p.0 == 3) (a_fork (fork_of p.1.1.1.0) p.1.0 p.1.1.0) (cond (p.0 == 4) (a_ring (ring_of p.1.1.1.0) p.1.0 (closer_of_number p.1.1.1.1.0) p.1.1.0) (cond (p.0 == 5) (a_closer (closer_of_number p.1.1.1.1.0) p.1.0) (a_hop (fork_of p.1.1.1.0) p.1.0))))))

pub same_block_piece : (p : BlockPiece) → block_piece (block_parts p) ≡ p
same_block_piece no_item = refl
same_block_piece (a_word line w) = refl
same_block_piece (a_when line) = refl
same_block_piece (a_fork k line mid) = ap (λ j. a_fork j line mid) (same_fork k)
same_block_piece (a_ring k line c last) =
    ap (λ j. a_ring j line (closer_of_number (closer_number c)) last) (same_ring k) ∙ ap (λ e. a_ring k line e last) (same_closer c)
same_block_piece (a_closer c line) = ap (λ e. a_closer e line) (same_closer c)
same_block_piece (a_hop k line) = ap (λ j. a_hop j line) (same_fork k)

-- items and an end, with the pieces that follow
abbrev pub block_written : Block → List BlockPiece → List BlockPiece
block_written stop rest = no_item ∷ rest
block_written (word line w next) rest = a_word line w ∷ block_written next rest
block_written (when line a next) rest = a_when line ∷ block_written a (block_written next rest)
block_written (fork k line a mid b next) rest =
    a_fork k line mid ∷ block_written a (block_written b (block_written next rest))
block_written (ring k line a c last next) rest = a_ring k line c last ∷ block_written a (block_written next rest)

abbrev pub end_written : BlockEnd → List BlockPiece → List BlockPiece
end_written (closes c line) rest = a_closer c line ∷ rest
end_written (hops k line next end) rest = a_hop k line ∷ block_written next (end_written end rest)

-- what was read
pub data BlockShape : Type 0 where
  a_block : Block → BlockShape
  an_end : BlockEnd → BlockShape

-- a piece, before what was read behind it
abbrev pub block_taken : BlockPiece → List BlockShape → List BlockShape
block_taken no_item shapes = a_block stop ∷ shapes
block_taken (a_word line w) (a_block next ∷ shapes) = a_block (word line w next) ∷ shapes
block_taken (a_when line) (a_block a ∷ a_block next ∷ shapes) = a_block (when line a next) ∷ shapes
block_taken (a_fork k line mid) (a_block a ∷ a_block b ∷ a_block next ∷ shapes) = a_block (fork k line a mid b next) ∷ shapes
block_taken (a_ring k line c last) (a_block a ∷ a_block next ∷ shapes) = a_block (ring k line a c last next) ∷ shapes
block_taken (a_closer c line) shapes = an_end (closes c line) ∷ shapes
block_taken (a_hop k line) (a_block next ∷ an_end end ∷ shapes) = an_end (hops k line next end) ∷ shapes
block_taken _ shapes = []

abbrev pub block_read : List BlockPiece → List BlockShape
block_read [] = []
block_read (p ∷ ps) = block_taken p (block_read ps)

abbrev pub first_block : List BlockShape → Block
first_block (a_block b ∷ shapes) = b
first_block _ = stop

abbrev pub first_end : List BlockShape → BlockEnd
first_end (an_end e ∷ shapes) = e
first_end _ = closes Semicolon 0

pub block_again : (b : Block) (rest : List BlockPiece) → block_read (block_written b rest) ≡ a_block b ∷ block_read rest
block_again stop rest = refl
block_again (word line w next) rest = ap (block_taken (a_word line w)) (block_again next rest)
block_again (when line a next) rest =
    ap (block_taken (a_when line)) (block_again a (block_written next rest) ∙ ap (λ shapes. a_block a ∷ shapes) (block_again next rest))
block_again (fork k line a mid b next) rest =
    ap (block_taken (a_fork k line mid)) (block_again a (block_written b (block_written next rest)) ∙ ap (λ shapes. a_block a ∷ shapes) (block_again b (block_written next rest) ∙ ap (λ shapes. a_block b ∷ shapes) (block_again next rest)))
block_again (ring k line a c last next) rest =
    ap (block_taken (a_ring k line c last)) (block_again a (block_written next rest) ∙ ap (λ shapes. a_block a ∷ shapes) (block_again next rest))

pub end_again : (e : BlockEnd) (rest : List BlockPiece) → block_read (end_written e rest) ≡ an_end e ∷ block_read rest
end_again (closes c line) rest = refl
end_again (hops k line next end) rest =
    ap (block_taken (a_hop k line)) (block_again next (end_written end rest) ∙ ap (λ shapes. a_block next ∷ shapes) (end_again end rest))

pub same_written_block : (b : Block) → first_block (block_read (block_written b [])) ≡ b
same_written_block b = ap first_block (block_again b [])

pub same_written_end : (e : BlockEnd) → first_end (block_read (end_written e [])) ≡ e
same_written_end e = ap first_end (end_again e [])

abbrev block_piece_code : Coded BlockPiece
block_piece_code =
    code_by BlockParts (coded× coded_ℕ (coded× coded_ℕ (coded× coded_ℕ (coded× coded_ℕ (coded× coded_ℕ word_type.the_row.coded))))) block_parts block_piece same_block_piece

abbrev pub block_code : Coded Block
block_code =
    code_by (List BlockPiece) (coded_list block_piece_code) (λ b. block_written b []) (λ ps. first_block (block_read ps)) same_written_block

abbrev pub end_code : Coded BlockEnd
end_code =
    code_by (List BlockPiece) (coded_list block_piece_code) (λ e. end_written e []) (λ ps. first_end (block_read ps)) same_written_end
