-- A consumer that is connected.
use Rattle.std.specs.Prelude.{ℕ, Bool, ◌&&◌, not}
use Rattle.pdc_session.specs.Session.{SessionView}
use Rattle.pdc_server.specs.Turn.{Standing}
use Rattle.pdc_server.specs.declared.consumer.Consumer.{Consumer}
use Rattle.pdc_server.specs.declared.place.Place.{Place}

-- the stream that it asks
abbrev pub id_in : {N : Type 0} {naming : _} → Consumer N naming → ℕ
id_in consumer = consumer.id.value

-- its session
abbrev pub session_in : {N : Type 0} {naming : _} → Consumer N naming → SessionView
session_in consumer = consumer.session

-- where it stands in the stream
abbrev pub place_in : {N : Type 0} {naming : _} → Consumer N naming → Place
place_in consumer = consumer.place

-- up to which instant it got data
abbrev pub got_in : {N : Type 0} {naming : _} → Consumer N naming → ℕ
got_in consumer = consumer.place.got

-- whether bytes came when it was last heard
abbrev pub heard_in : {N : Type 0} {naming : _} → Consumer N naming → Bool
heard_in consumer = consumer.heard

-- it sent nothing when it was last heard, and data is off
abbrev pub is_silent_in : {N : Type 0} {naming : _} → Consumer N naming → Bool
is_silent_in consumer = not consumer.heard && not consumer.session.told.on

-- where it stands
abbrev pub standing_in : {N : Type 0} {naming : _} → Consumer N naming → Standing
standing_in consumer = record { session = consumer.session; place = consumer.place; heard = consumer.heard }
