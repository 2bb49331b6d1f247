-- What is said of each key, a line a key.
use Rattle.std.specs.Prelude.{ℕ, Bool, true, false, List, [], ◌∷◌, codes, if◌then◌else◌, nat_eq, Option, Some, None}
use Rattle.std.specs.Cmp.Lexicographic.{pointwise}
use Rattle.pdc_keys.specs.declared.key.Choice.{Choice}
use Rattle.pdc_keys.specs.declared.key.Choice.TheVariants.{First, Second}
use Rattle.pdc_keys.specs.declared.key.Usual.{Usual}
use Rattle.pdc_keys.specs.declared.key.Usual.TheVariants.{AtMerger, AtNode, Is, Must, Octets, Said, Text, Unless}
use Rattle.pdc_keys.specs.declared.key.Values.{Values}
use Rattle.pdc_keys.specs.declared.key.Values.TheVariants as Stands
use Rattle.pdc_keys.specs.declared.owner.KeyTable.{KeyTable}
use Rattle.pdc_keys.specs.declared.owner.KeyTable.TheVariants as In
use Rattle.pdc_keys.specs.declared.owner.Owner.{Owner}
use Rattle.pdc_keys.specs.declared.owner.Owner.TheVariants.{EachPmu, Node, Pmu, Settings, Stream}
use Rattle.pdc_keys.specs.declared.wanted.Wanted.{Wanted}
use Rattle.pdc_keys.specs.declared.wanted.Wanted.TheVariants as Of

-- the least number that may stand there, or the fewest items; a number that begins at the rate is 1 at least
abbrev pub least_in : Values → ℕ
least_in (Stands.Number least most) = least
least_in (Stands.FromRate most) = 1
least_in (Stands.Either one other) = one
least_in (Stands.Words one other) = 0
least_in (Stands.WithinFrame least most) = least
least_in (Stands.Tables least most) = least
least_in Stands.TwoTables = 2
least_in Stands.Nothing = 0
least_in (Stands.Address one) = 0
least_in (Stands.AddressBeside one) = 0
least_in (Stands.Places most) = 0
least_in Stands.PlaceInstead = 0
least_in Stands.PlaceBeside = 0

-- the greatest number, or the most items
abbrev pub most_in : Values → ℕ
most_in (Stands.Number least most) = most
most_in (Stands.FromRate most) = most
most_in (Stands.Either one other) = other
most_in (Stands.Words one other) = 0
most_in (Stands.WithinFrame least most) = most
most_in (Stands.Tables least most) = most
most_in Stands.TwoTables = 2
most_in Stands.Nothing = 0
most_in (Stands.Address one) = 0
most_in (Stands.AddressBeside one) = 0
most_in (Stands.Places most) = most
most_in Stands.PlaceInstead = 0
most_in Stands.PlaceBeside = 0

-- the number that holds where a key is left out, 0 where none is said
abbrev pub usual_in : Usual → ℕ
usual_in Must = 0
usual_in (Unless other) = 0
usual_in (AtNode other) = 0
usual_in AtMerger = 0
usual_in (Is number) = number
usual_in (Text text) = 0
usual_in (Octets a b c d) = 0
usual_in (Said words) = 0

-- 0.0.0.0
abbrev pub none_said : List ℕ
none_said = 0 ∷ 0 ∷ 0 ∷ 0 ∷ []

-- the text that holds where a key is left out, an empty one where none is said
abbrev pub text_in : Usual → List ℕ
text_in Must = []
text_in (Unless other) = []
text_in (AtNode other) = []
text_in AtMerger = []
text_in (Is number) = []
text_in (Text text) = text.now
text_in (Octets a b c d) = []
text_in (Said words) = []

-- the four numbers of the address that holds where a key is left out, 0.0.0.0 where none is said
abbrev pub octets_in : Usual → List ℕ
octets_in Must = none_said
octets_in (Unless other) = none_said
octets_in (AtNode other) = none_said
octets_in AtMerger = none_said
octets_in (Is number) = none_said
octets_in (Text text) = none_said
octets_in (Octets a b c d) = a ∷ b ∷ c ∷ d ∷ []
octets_in (Said words) = none_said

-- the two words of which one may stand there
abbrev pub words_in : Values → List (List ℕ)
words_in (Stands.Number least most) = []
words_in (Stands.FromRate most) = []
words_in (Stands.Either one other) = []
words_in (Stands.Words one other) = one.now ∷ other.now ∷ []
words_in (Stands.WithinFrame least most) = []
words_in (Stands.Tables least most) = []
words_in Stands.TwoTables = []
words_in Stands.Nothing = []
words_in (Stands.Address one) = []
words_in (Stands.AddressBeside one) = []
words_in (Stands.Places most) = []
words_in Stands.PlaceInstead = []
words_in Stands.PlaceBeside = []

-- which of them a text is
abbrev pub choice_of : List (List ℕ) → List ℕ → Option Choice
choice_of [] text = None
choice_of (one ∷ []) text = None
choice_of (one ∷ (other ∷ more)) text = if pointwise nat_eq text one then Some First else if pointwise nat_eq text other then Some Second else None

-- the name of a key, whose it is, its least and its greatest number, its two words, and what holds where it is left out: a
-- number, a text or the four numbers of an address
pub record Line : Type 0 where
  pub name : List ℕ
  pub owner : Owner
  pub least : ℕ
  pub most : ℕ
  pub words : List (List ℕ)
  pub usual : ℕ
  pub text : List ℕ
  pub octets : List ℕ

abbrev pub number_or : List ℕ → Owner → (usual least most : ℕ) → Line
number_or name owner usual least most = record {
  name = name;
  owner = owner;
  least = least;
  most = most;
  words = [];
  usual = usual;
  text = [];
  octets = none_said;
}

abbrev pub number : List ℕ → Owner → (least most : ℕ) → Line
number name owner least most = number_or name owner 0 least most

abbrev pub other : List ℕ → Owner → Line
other name owner = number name owner 0 0

-- one of two words, and the one that holds where the key is left out
abbrev pub either : List ℕ → Owner → (one other usual : List ℕ) → Line
either name owner one other usual = record (number name owner 0 0) { words = one ∷ other ∷ []; text = usual }

abbrev pub address_or : List ℕ → Owner → (octets : List ℕ) → Line
address_or name owner octets = record (number name owner 0 0) { octets = octets }

abbrev pub line_of : Wanted → Line
line_of Of.Id = number (codes "id") Settings 1 65534
line_of Of.Rate = number (codes "rate") Settings 1 240
line_of Of.Nominal = number (codes "nominal") Settings 50 60
line_of Of.TimeBase = number (codes "time_base") Settings 1 16777215
line_of Of.Wait = number (codes "wait") Settings 1 1000
line_of Of.WaitKind = either (codes "wait_kind") Settings (codes "relative") (codes "absolute") (codes "relative")
line_of Of.Window = number (codes "window") Settings 8 256
line_of Of.Ahead = number (codes "ahead") Settings 0 1000
line_of Of.Lead = number_or (codes "lead") Settings 0 0 1000
line_of Of.LayoutEvery = number (codes "layout_every") Settings 1 65535
line_of Of.OutPort = number (codes "out_port") Settings 1 65535
line_of Of.SessionPort = number (codes "session_port") Settings 1 65535
line_of Of.Tick = either (codes "tick") Settings (codes "period") (codes "whole") (codes "period")
line_of Of.TickMs = number (codes "tick_ms") Settings 0 999
line_of Of.Address = address_or (codes "address") Settings (127 ∷ 0 ∷ 0 ∷ 1 ∷ [])
line_of Of.Outputs = number (codes "outputs") Settings 0 8
line_of Of.Ttl = number_or (codes "ttl") Settings 1 1 255
line_of Of.ReceiveBuffer = number_or (codes "receive_buffer") Settings 4194304 1 1073741824
line_of Of.Sessions = number_or (codes "sessions") Settings 8 1 64
line_of Of.MetricsPort = number (codes "metrics_port") Settings 1 65535
line_of Of.NoNodes = other (codes "node") Settings
line_of Of.Nodes = number (codes "node") Settings 2 2
line_of Of.Pmus = number (codes "pmu") Settings 1 16
line_of Of.PmuStream = number (codes "stream") Pmu 1 65534
line_of Of.PmuSource = number (codes "source") EachPmu 1 65534
line_of Of.NodeId = number (codes "id") Node 1 65534
line_of Of.PmuTimeBase = number (codes "time_base") Pmu 1 16777215
line_of Of.NodeTimeBase = number (codes "time_base") Node 1 16777215
line_of Of.PmuPort = number (codes "port") Pmu 1 65535
line_of Of.NodePort = number (codes "port") Node 1 65535
line_of Of.Tcp = other (codes "tcp") Stream
line_of Of.Commands = other (codes "commands") Stream
line_of Of.From = other (codes "from") Stream
line_of Of.MostCount = number (codes "most_count") Stream 1 65535

abbrev pub name_of : Wanted → List ℕ
name_of wanted = (line_of wanted).name

abbrev pub owner_of : Wanted → Owner
owner_of wanted = (line_of wanted).owner

abbrev pub least_of : Wanted → ℕ
least_of wanted = (line_of wanted).least

abbrev pub most_of : Wanted → ℕ
most_of wanted = (line_of wanted).most

abbrev pub usual_of : Wanted → ℕ
usual_of wanted = (line_of wanted).usual

abbrev pub usual_text_of : Wanted → List ℕ
usual_text_of wanted = (line_of wanted).text

abbrev pub usual_octets_of : Wanted → List ℕ
usual_octets_of wanted = (line_of wanted).octets

abbrev pub words_of : Wanted → List (List ℕ)
words_of wanted = (line_of wanted).words

-- a key of this owner is read in a table of this kind
abbrev pub stands_in : KeyTable → Owner → Bool
stands_in In.Top Settings = true
stands_in In.NodePmu Settings = false
stands_in In.MergedNode Settings = false
stands_in In.MergedPmu Settings = false
stands_in In.Top Pmu = false
stands_in In.NodePmu Pmu = true
stands_in In.MergedNode Pmu = false
stands_in In.MergedPmu Pmu = false
stands_in In.Top EachPmu = false
stands_in In.NodePmu EachPmu = true
stands_in In.MergedNode EachPmu = false
stands_in In.MergedPmu EachPmu = true
stands_in In.Top Node = false
stands_in In.NodePmu Node = false
stands_in In.MergedNode Node = true
stands_in In.MergedPmu Node = false
stands_in In.Top Stream = false
stands_in In.NodePmu Stream = true
stands_in In.MergedNode Stream = true
stands_in In.MergedPmu Stream = false

-- the names of those of some keys that are read in a table of this kind
abbrev pub names_in : KeyTable → List Wanted → List (List ℕ)
names_in table [] = []
names_in table (key ∷ keys) = if stands_in table (owner_of key) then name_of key ∷ names_in table keys else names_in table keys
