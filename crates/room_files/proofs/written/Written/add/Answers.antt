use Rattle.std.proofs.Common.{ℕ, List, ◌+◌, length, vec_len, refl, ap, ◌∙◌, arith}
use Rattle.room_files.specs.WrittenInside.{names_length, bytes_length}
use Rattle.room_files.proofs.Cutting.{cut-add, names_length-add, bytes_length-add}
use Rattle.room_files.proofs.written.Written.add.Goals as goal

pub returns-clause-kept : goal.returns-clause-kept
returns-clause-kept c =
    let k = c.requires.kept in
    let ls = c.args.self.now.lengths.items in
    let name_is = c.as_bytes.ensures.value in
    let n = ap names_length c.in_ok-push.ensures.items ∙ names_length-add ls (record { name = length c.args.name.now; bytes = length c.args.bytes.now }) in
    let b = ap bytes_length c.in_ok-push.ensures.items ∙ bytes_length-add ls (record { name = length c.args.name.now; bytes = length c.args.bytes.now }) in
    let more = c.in_ok-extend_from_slice.ensures.len ∙ ap (λ (x : List ℕ). vec_len c.args.self.now.names + length x) name_is in
    record {
      names = omega (arith, n, k.names, more);
      bytes = omega (arith, b, k.bytes, c.in_ok-extend_from_slice-2.ensures.len);
      few = omega (arith, c.requires.room.few, c.in_ok-push.ensures.len);
      short = omega (arith, c.requires.room.short, more);
      within = omega (arith, c.requires.room.within, c.in_ok-extend_from_slice-2.ensures.len);
      lengths_room = omega (arith, k.lengths_room, c.in_ok-push.ensures.capacity);
      names_room = omega (arith, k.names_room, c.in_ok-extend_from_slice.ensures.capacity);
      bytes_room = omega (arith, k.bytes_room, c.in_ok-extend_from_slice-2.ensures.capacity);
    }

pub returns-clause-added : goal.returns-clause-added
returns-clause-added c =
    let k = c.requires.kept in
    rw (c.in_ok-extend_from_slice.ensures.items, c.in_ok-extend_from_slice-2.ensures.items, c.in_ok-push.ensures.items, c.as_bytes.ensures.value)
    (cut-add c.args.self.now.names.items c.args.self.now.bytes.items c.args.name.now c.args.bytes.now c.args.self.now.lengths.items _
    (k.names ∙ c.args.self.now.names.ok.0) (k.bytes ∙ c.args.self.now.bytes.ok.0) refl refl)
