use Rattle.std.proofs.Common.{arith}
use Rattle.packet_filter.proofs.machine.Machine.step.Goals as goal

pub returns-in-Operand : goal.returns-in-Operand
returns-in-Operand c =
    let e = c.step_operand.ensures in rw c.in-Operand.is (record { yes = e.yes; no = e.no; left = rw c.in-Operand.is at e.left; size = λ h. omega (arith, e.size h) })

pub returns-in-Within : goal.returns-in-Within
returns-in-Within c =
    let e = c.step_within.ensures in rw c.in-Within.is (record { yes = e.yes; no = e.no; left = rw c.in-Within.is at e.left; size = λ h. omega (arith, e.size h) })

pub returns-in-Net : goal.returns-in-Net
returns-in-Net c =
    let e = c.step_net.ensures in rw c.in-Net.is (record { yes = e.yes; no = e.no; left = rw c.in-Net.is at e.left; size = λ h. omega (arith, e.size h) })

pub returns-in-Mask : goal.returns-in-Mask
returns-in-Mask c =
    let e = c.go_on.ensures in rw c.in-Mask.is (record { yes = rw c.with_mask.ensures.value at e.yes; no = rw c.with_mask.ensures.value at e.no; left = rw c.in-Mask.is at e.left; size = λ h. omega (arith, e.size h) })

pub returns-in-Operator : goal.returns-in-Operator
returns-in-Operator c =
    let e = c.step_operator.ensures in rw c.in-Operator.is (record { yes = e.yes; no = e.no; left = rw c.in-Operator.is at e.left; size = λ h. omega (arith, e.size h) })
