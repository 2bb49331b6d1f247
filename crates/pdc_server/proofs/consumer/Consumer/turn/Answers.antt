use Rattle.std.proofs.Common.{ℕ, List, subst, take, ◌∙◌}
use Rattle.std.specs.Io.KnownBytes.{Appends}
use Rattle.pdc_server.specs.Consumer.{standing_in}
use Rattle.pdc_server.specs.Turn.{HasEnded, IsUnwritten, dated_at}
use Rattle.pdc_server.proofs.Turns.{ended_unwritten, ended_written, few_bytes, of_err, some_made, where_err, where_ok}
use Rattle.pdc_server.proofs.consumer.Consumer.turn.Goals as goal

pub returns-in_err-write_out-clause-ended : goal.returns-in_err-write_out-clause-ended
returns-in_err-write_out-clause-ended g c =
    let why = c.in_err-write_out.field-0.0 in
    let some = some_made c.make-made.result (dated_at g.N.Naming.stream c.args.soc) c.args.self.now.id.value (take c.in_ok-count.count c.read_once.new.piece.items) (standing_in c.args.self.now) (standing_in c.make-made.new.self) c.make-made.new.self.out.items c.make-made.ensures.ok c.make-made.ensures.err in
    of_err (HasEnded g.S.Read.remaining g.S.Write.contents (dated_at g.N.Naming.stream c.args.soc) c.args.self.now.id.value (standing_in c.args.self.now) (standing_in c.make-made.new.self) c.args.stream.now c.write_out.new.stream) c.from_residual-in_err-write_out.result why c.from_residual-in_err-write_out.ensures.1
    (ended_unwritten g.S.Read.remaining g.S.Write.contents (dated_at g.N.Naming.stream c.args.soc) c.args.self.now.id.value (standing_in c.args.self.now) (standing_in c.make-made.new.self) c.args.stream.now c.write_out.new.stream why some.0
    (record { read = c.read_once.new.stream; piece = take c.in_ok-count.count c.read_once.new.piece.items; few = few_bytes c.in_ok-count.count _ c.read_once.new.piece.items c.in_ok-count.ensures.count (c.read_once.ensures.room ∙ c.args.self.now.has_room); made = c.make-made.new.self.out.items; came = c.in_ok-count.ensures.bytes; noted = c.make-made.ensures.heard; is_made = some.1 })
    (subst (λ (bytes : List ℕ). IsUnwritten why (g.S.Write.contents c.read_once.new.stream) (g.S.Write.contents c.write_out.new.stream) bytes) c.deref.ensures.value c.in_err-write_out.ensures.unwritten))

pub returns-clause-ok : goal.returns-clause-ok
returns-clause-ok g c = where_ok c.make-made.result
    (λ made. (
      record { read = c.read_once.new.stream; piece = take c.in_ok-count.count c.read_once.new.piece.items; few = few_bytes c.in_ok-count.count _ c.read_once.new.piece.items c.in_ok-count.ensures.count (c.read_once.ensures.room ∙ c.args.self.now.has_room); made = c.make-made.new.self.out.items; came = c.in_ok-count.ensures.bytes; noted = c.make-made.ensures.heard; is_made = made },
      subst (λ (bytes : List ℕ). Appends (g.S.Write.contents c.read_once.new.stream) (g.S.Write.contents c.write_out.new.stream) bytes) c.deref.ensures.value c.in_ok-write_out.ensures.ok,
    ))
    c.make-made.ensures.ok

pub returns-clause-ended : goal.returns-clause-ended
returns-clause-ended g c = where_err c.make-made.result
    (λ ended made. ended_written g.S.Read.remaining g.S.Write.contents (dated_at g.N.Naming.stream c.args.soc) c.args.self.now.id.value (standing_in c.args.self.now) (standing_in c.make-made.new.self) c.args.stream.now c.write_out.new.stream ended (
      record { read = c.read_once.new.stream; piece = take c.in_ok-count.count c.read_once.new.piece.items; few = few_bytes c.in_ok-count.count _ c.read_once.new.piece.items c.in_ok-count.ensures.count (c.read_once.ensures.room ∙ c.args.self.now.has_room); made = c.make-made.new.self.out.items; came = c.in_ok-count.ensures.bytes; noted = c.make-made.ensures.heard; is_made = made },
      subst (λ (bytes : List ℕ). Appends (g.S.Write.contents c.read_once.new.stream) (g.S.Write.contents c.write_out.new.stream) bytes) c.deref.ensures.value c.in_ok-write_out.ensures.ok,
    ))
    c.make-made.ensures.err
