use Prim.Native.Nat.{◌+◌, ◌≤◌}
use mathlib.Core.Path.{sym, ◌∙◌}
use native.Mathlib.Omega.{arith}
use lib.ListN.{get_or}
use Rattle.text.proofs.Reading.{digit_range}
use Rattle.request.proofs.Shorts.{Short, short_is, short_read}
use Rattle.request.proofs.address.address_at.Goals as goal
use Rattle.request.proofs.address.address_at.Goals.{Else-not-is_short}

short : (c : Else-not-is_short) → Short c.args.s.now c.args.at
short c = short_is _ _ (sym c.is_short.ensures ∙ c.if-not-is_short.false)

m_range : (c : Else-not-is_short) → (48 ≤ get_or c.args.s.now c.args.at 0) × (get_or c.args.s.now c.args.at 0 ≤ 57)
m_range c = digit_range _ (short c).m

port_range : (c : Else-not-is_short) → (48 ≤ get_or c.args.s.now (c.args.at + 2) 0) × (get_or c.args.s.now (c.args.at + 2) 0 ≤ 57)
port_range c = digit_range _ (short c).port

pub bounds-s-at : goal.bounds-s-at
bounds-s-at c =
    let short = short (goal.at.bounds-s-at c).Else-not-is_short in
    let h = short.room in omega arith

pub overflow_sub-s : goal.overflow_sub-s
overflow_sub-s c =
    let m_range = m_range (goal.at.overflow_sub-s c).Else-not-is_short in
    let h = m_range in omega arith

pub overflow_add-at : goal.overflow_add-at
overflow_add-at c =
    let short = short (goal.at.overflow_add-at c).Else-not-is_short in
    let h = short.room in omega arith

pub bounds-s-at-2 : goal.bounds-s-at-2
bounds-s-at-2 c =
    let short = short (goal.at.bounds-s-at-2 c).Else-not-is_short in
    let h = short.room in omega arith

pub overflow_sub-s-2 : goal.overflow_sub-s-2
overflow_sub-s-2 c =
    let port_range = port_range (goal.at.overflow_sub-s-2 c).Else-not-is_short in
    let h = port_range in omega arith

pub overflow_add-result : goal.overflow_add-result
overflow_add-result c =
    let short = short (goal.at.overflow_add-result c).Else-not-is_short in
    let h = short.room in omega arith

pub returns : goal.returns
returns c =
    let short = short (goal.at.returns c).Else-not-is_short in
    rw (c.from-m.ensures, c.from-port.ensures) (sym (short_read _ _ short))
