-- What a world replies, and the list of what was published, by its history.
use Rattle.std.specs.Prelude.{[], ◌++◌, ◌∷◌, length, List, None, option_map, Some, ℕ}
use Rattle.pdc_row.specs.RowView.{RowView}
use Rattle.pdc_history.specs.{Play.{Answered, Began, Closed, Gave, PassedBy, SentAs, Told, told_of}, World.{A, B, Comes, Ends, Happened, M, PassesBy, Publishes, Sends, sent, Ticks, Who, World}}
use Rattle.pdc_history.specs.{declared.reply.Published.{Published}, declared.reply.Reply.{Reply}, declared.who.Who.{Who as WhoData}}
use Rattle.pdc_history.specs.declared.reply.Reply.TheVariants as reply
use Rattle.pdc_history.specs.declared.who.Who.TheVariants as who

-- the core, as events and replies name it
abbrev pub name_of : Who → WhoData
name_of A = who.A
name_of B = who.B
name_of M = who.M

-- the row that a core published, whose frame has this number among all that were sent
abbrev pub published_as : Who → (number : ℕ) → RowView → Published
published_as whose number row = record { who = name_of whose; instant = row.instant; number = number }

abbrev pub listed_at : World → List Happened → Happened → List Published
listed_at W H (Publishes whose (Some row)) = published_as whose (length (sent W H)) row ∷ []
listed_at W H h = []

-- The rows that were published, the first to be published first.
abbrev pub listed : World → List Happened → List Published
listed W [] = []
listed W (h ∷ H) = listed W H ++ listed_at W H h

-- whose it is; that a PMU sends is no core's, and is told without one
abbrev pub whose_is : Happened → Who
whose_is (Sends bytes) = A
whose_is (Comes whose entry) = whose
whose_is (PassesBy whose) = whose
whose_is (Ticks whose entry) = whose
whose_is (Publishes whose row) = whose
whose_is (Ends whose mark) = whose

-- the reply that tells this of a core, where so many frames had been sent
abbrev pub reply_telling : Who → (number : ℕ) → Told → Reply
reply_telling whose number (SentAs k) = reply.Sent k
reply_telling whose number (Answered outcome) = reply.Came (name_of whose) (Some outcome)
reply_telling whose number PassedBy = reply.Came (name_of whose) None
reply_telling whose number (Closed rows change used_up) = reply.Ticked (name_of whose) (record { closed = rows; change = change; used_up = used_up })
reply_telling whose number (Gave row) = reply.Published (name_of whose) (option_map (published_as whose number) row)
reply_telling whose number (Began start floor) = reply.Stopped (name_of whose) start floor

-- What is replied to that which happened after H.
abbrev pub reply_of : World → List Happened → Happened → Reply
reply_of W H h = reply_telling (whose_is h) (length (sent W H)) (told_of W H h)
