-- The piece fits, is truncated, or starts after the end of the buffer.
use Rattle.std.proofs.Common.{◌+◌, ◌-◌, length, refl, arith}
use Rattle.wasmprinter_c.proofs.Overs.{put_fits, put_cut, put_past}
use Rattle.wasmprinter_c.proofs.buffer_and_event_printer.copy_over.Goals as goal

pub returns-then-piece-room : goal.returns-then-piece-room
returns-then-piece-room c =
    put_fits c.args.place (c.args.place + length c.args.piece.now - c.args.place) c.args.out.now c.args.piece.now c.copy_from_slice.new.self
    c.copy_from_slice.ensures.after (omega arith) (omega (arith, c.if-piece-room.true))

pub returns-else-piece-room : goal.returns-else-piece-room
returns-else-piece-room c =
    put_cut c.args.place (length c.args.out.now - c.args.place) c.args.out.now c.args.piece.now c.copy_from_slice-else-piece-room.new.self
    c.copy_from_slice-else-piece-room.ensures.after refl (omega (arith, c.if-piece-room.false))

pub returns-else-place-out : goal.returns-else-place-out
returns-else-place-out c = put_past c.args.place c.args.out.now c.args.piece.now (omega (arith, c.if-place-out.false))
