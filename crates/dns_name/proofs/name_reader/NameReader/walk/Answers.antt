use Rattle.std.proofs.Common.{◌∙◌, ◌++◌, [], ap, arith}
use Rattle.std.proofs.lemmas.Result.{err_from_is_err_and}
use Rattle.dns_name.proofs.Loop.{HasRead-start, HasRead-pointer, HasRead-fails, HasWalked-label}
use Rattle.dns_name.proofs.TailLemmas.{whole_end, whole_by, too_long_by, IsWhole-wire, IsWhole-read, run_label, run_none}
use Rattle.dns_name.proofs.name_reader.NameReader.walk.Goals as goal

pub loop-wire-init : goal.loop-wire-init
loop-wire-init c = (
  omega arith,
  record {
    labels = [];
    wire_is = run_none c.self.inside.message.now _ c.args.at ∙ c.new-wire.ensures.items;
    read = HasRead-start c.self.inside.message.now c.args.at;
  },
)

pub returns-in_err-item_at : goal.returns-in_err-item_at
returns-in_err-item_at c =
    let p = err_from_is_err_and c.from_residual.result c.from_residual.ensures.1 in
    record { exact = rw (← c.self.view_is, p.1, p.2) (HasRead-fails c.self.inside.message.now c.args.at _ _ _ _ _ _ c.loop-wire.invariant.1.read c.in_err-item_at.ensures.item) }

pub from_wire-requires : goal.from_wire-requires
from_wire-requires c =
    let item = rw c.in-End.is at c.in_ok-item_at.ensures.item in
    IsWhole-wire _ _ _ _ (whole_end c.self.inside.message.now c.args.at _ _ _ _ _ _ c.unwrap_or-after.result c.in_ok-extend_from_slice-in-End.ensures.items c.unwrap_or-after.ensures c.loop-wire.invariant.0 c.loop-wire.invariant.1 item)

pub returns-in-End : goal.returns-in-End
returns-in-End c =
    let item = rw c.in-End.is at c.in_ok-item_at.ensures.item in
    let whole = whole_end c.self.inside.message.now c.args.at _ _ _ _ _ _ c.unwrap_or-after.result c.in_ok-extend_from_slice-in-End.ensures.items c.unwrap_or-after.ensures c.loop-wire.invariant.0 c.loop-wire.invariant.1 item in
    record { exact = rw (← c.self.view_is, c.from_wire.ensures) (IsWhole-read _ _ _ _ whole) }

pub loop-wire-preserved-in-Label : goal.loop-wire-preserved-in-Label
loop-wire-preserved-in-Label c =
    let label = c.in-Label.label.now in
    let item = rw c.in-Label.is at c.in_ok-item_at.ensures.item in
    let within = rw c.in-Label.is at c.in_ok-item_at.ensures.within in (
      omega (arith, c.loop-wire.invariant.0),
      HasWalked-label c.self.inside.message.now c.args.at _ _ _ _ _ label _ _ _ (run_label c.self.inside.message.now c.loop-wire.wire.items c.loop-wire.run c.loop-wire.used c.loop-wire.place label _ c.loop-wire.invariant.0 (omega arith) item) (omega arith) (omega arith) c.loop-wire.invariant.1 item within.0 within.1,
    )

pub returns-then-used-tail-gt-NAME_LIMIT : goal.returns-then-used-tail-gt-NAME_LIMIT
returns-then-used-tail-gt-NAME_LIMIT c =
    let item = rw c.in-Pointer.is at c.in_ok-item_at.ensures.item in
    let within = rw c.in-Pointer.is at c.in_ok-item_at.ensures.within in
    let known = rw (← c.self.view_is) at c.in-Some.ensures in
    record { exact = rw (← c.self.view_is) (too_long_by c.self.inside.message.now c.args.at _ _ _ _ _ c.in-Pointer.target c.in-Some.tail.now (omega (arith, c.if-used-tail-gt-NAME_LIMIT.true)) c.loop-wire.invariant.1 within item known) }

pub from_wire-requires-in-Some : goal.from_wire-requires-in-Some
from_wire-requires-in-Some c =
    let item = rw c.in-Pointer.is at c.in_ok-item_at.ensures.item in
    let within = rw c.in-Pointer.is at c.in_ok-item_at.ensures.within in
    let known = rw (← c.self.view_is) at c.in-Some.ensures in
    let extended = c.in_ok-extend_from_slice-in-Pointer-2.ensures.items ∙ ap (λ bytes. bytes ++ c.in-Some.tail.now) c.in_ok-extend_from_slice-in-Pointer.ensures.items in
    IsWhole-wire _ _ _ _ (whole_by c.self.inside.message.now c.args.at _ _ _ _ _ c.in-Pointer.target c.in-Some.tail.now _ c.unwrap_or-end.result extended c.unwrap_or-end.ensures (omega (arith, c.if-used-tail-gt-NAME_LIMIT.false)) c.loop-wire.invariant.1 within item known)

pub returns-in-Some : goal.returns-in-Some
returns-in-Some c =
    let item = rw c.in-Pointer.is at c.in_ok-item_at.ensures.item in
    let within = rw c.in-Pointer.is at c.in_ok-item_at.ensures.within in
    let known = rw (← c.self.view_is) at c.in-Some.ensures in
    let extended = c.in_ok-extend_from_slice-in-Pointer-2.ensures.items ∙ ap (λ bytes. bytes ++ c.in-Some.tail.now) c.in_ok-extend_from_slice-in-Pointer.ensures.items in
    let whole = whole_by c.self.inside.message.now c.args.at _ _ _ _ _ c.in-Pointer.target c.in-Some.tail.now _ c.unwrap_or-end.result extended c.unwrap_or-end.ensures (omega (arith, c.if-used-tail-gt-NAME_LIMIT.false)) c.loop-wire.invariant.1 within item known in
    record { exact = rw (← c.self.view_is, c.from_wire-in-Some.ensures) (IsWhole-read _ _ _ _ whole) }

pub loop-wire-preserved : goal.loop-wire-preserved
loop-wire-preserved c =
    let item = rw c.in-Pointer.is at c.in_ok-item_at.ensures.item in
    let within = rw c.in-Pointer.is at c.in_ok-item_at.ensures.within in
    let walked = c.loop-wire.invariant.1 in (
      omega arith,
      record {
        labels = walked.labels;
        wire_is = run_none c.self.inside.message.now _ c.in-Pointer.target ∙ c.in_ok-extend_from_slice-in-Pointer.ensures.items ∙ walked.wire_is;
        read = rw c.unwrap_or-end.ensures (HasRead-pointer c.self.inside.message.now c.args.at _ _ _ _ _ c.in-Pointer.target walked.read within item);
      },
    )
