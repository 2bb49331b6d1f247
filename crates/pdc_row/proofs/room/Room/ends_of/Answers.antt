use Rattle.std.proofs.Common.{◌≡◌, ◌∙◌, ◌+◌, ◌++◌, List, ℕ, ap, arith, length, length-append, take}
use Rattle.std.proofs.lemmas.List.{length-take-le}
use Rattle.std.specs.Int.{w16, to_be_bytes}
use Rattle.pdc_row.specs.pdc_frame.CheckWord.{check_word_of}
use Rattle.pdc_row.specs.pdc_frame.Frame.{Fields, fields_of, header_of}
use Rattle.pdc_row.proofs.Rooms.{long_room, own_before, own_leaves}
use Rattle.pdc_row.proofs.room.Room.ends_of.Goals as goal

pub returns-clause-same : goal.returns-clause-same
returns-clause-same c =
    own_leaves c.self.inside.bytes c.args.self.now c.copy_from_slice.new.self (omega (arith, c.self.told)) (ap length c.copy_from_slice.ensures.after ∙ c.told-own) c.self.view_is

pub returns-clause-check : goal.returns-clause-check
returns-clause-check c =
    let head : Fields = fields_of c.args.head.now in
    let room : List ℕ = c.args.self.now in
    let payload : List ℕ = c.args.own.now ++ take c.args.len room in
    let put : _ ≡ payload =
    own_before c.args.len c.self.inside.bytes room c.copy_from_slice.new.self (omega (arith, c.self.told)) (ap length c.copy_from_slice.ensures.after ∙ c.told-own) c.self.view_is
    ∙ ap (λ (own : List ℕ). own ++ take c.args.len room) c.copy_from_slice.ensures.after in
    let long : length payload + 16 ≡ 14 + c.args.len + 16 =
    omega (arith, length-append c.args.own.now (take c.args.len room), c.told-own, length-take-le c.args.len room (omega (arith, c.requires, long_room c.self.inside.bytes room c.self.told c.self.view_is))) in
    c.write_ends.ensures.back
    ∙ ap (λ (p : List ℕ). to_be_bytes w16 (check_word_of (header_of head (length p + 16) ++ p))) put
    ∙ ap (λ n. to_be_bytes w16 (check_word_of (header_of head n ++ payload))) long
