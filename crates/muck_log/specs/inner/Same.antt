-- What two records have in common.
use Rattle.std.specs.Prelude.{◌≡◌}
use Rattle.muck_codec.specs.declared.stored.Stored.{Stored}

abbrev pub HasSameHead : Stored → Stored → Type 0
HasSameHead a b = (a.dbref ≡ b.dbref) × ((a.kind ≡ b.kind) × ((a.flags ≡ b.flags) × (a.level ≡ b.level)))

abbrev pub HasSameTies : Stored → Stored → Type 0
HasSameTies a b = (a.owner ≡ b.owner) × ((a.place ≡ b.place) × ((a.link ≡ b.link) × (a.home ≡ b.home)))

abbrev pub HasSameLists : Stored → Stored → Type 0
HasSameLists a b = (a.first_content ≡ b.first_content) × ((a.first_exit ≡ b.first_exit) × (a.next ≡ b.next))

abbrev pub HasSameTexts : Stored → Stored → Type 0
HasSameTexts a b = (a.name ≡ b.name) × ((a.digest ≡ b.digest) × ((a.props ≡ b.props) × (a.lines ≡ b.lines)))
