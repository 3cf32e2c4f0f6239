use Rattle.wasmprinter_c.proofs.status_messages.write_message.Goals as goal

pub returns-in-1 : goal.returns-in-1
returns-in-1 g c = rw c.in-1.is c.write_hexadecimal_between.ensures

pub returns-in-3 : goal.returns-in-3
returns-in-3 g c = rw c.in-3.is c.write_hexadecimal_between-in-3.ensures

pub returns-in-4 : goal.returns-in-4
returns-in-4 g c = rw c.in-4.is c.write_decimal_between.ensures

pub returns-in-5 : goal.returns-in-5
returns-in-5 g c = rw c.in-5.is c.write_hexadecimal_between-in-5.ensures

pub returns-in-6 : goal.returns-in-6
returns-in-6 g c = rw c.in-6.is c.write_hexadecimal_between-in-6.ensures

pub returns-in-7 : goal.returns-in-7
returns-in-7 g c = rw c.in-7.is c.write_hexadecimal_between-in-7.ensures

pub returns-in-8 : goal.returns-in-8
returns-in-8 g c = rw c.in-8.is c.write_decimal_between-in-8.ensures

pub returns-in-11 : goal.returns-in-11
returns-in-11 g c = rw c.in-11.is c.write_str-in-11.ensures

pub returns-in-12 : goal.returns-in-12
returns-in-12 g c = rw c.in-12.is c.write_str-in-12.ensures

pub returns-in-13 : goal.returns-in-13
returns-in-13 g c = rw c.in-13.is c.write_hexadecimal_between-in-13.ensures

pub returns-in-14 : goal.returns-in-14
returns-in-14 g c = rw c.in-14.is c.write_hexadecimal_between-in-14.ensures
