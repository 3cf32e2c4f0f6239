-- The option is set, or can't have this value.
use Rattle.std.proofs.Common.{refl, sym}
use Rattle.wasm2text.specs.Arguments.{WrittenTo, IndentedBy, Colored, Shows}
use Rattle.wasm2text.specs.Parts.{Excerpt, OneFunction}
use Rattle.wasm2text.specs.FunctionText.{function_view}
use Rattle.wasm2text.specs.declared.target.Target.TheVariants.{Byte, CodeByte}
use Rattle.wasm2text.proofs.parser.Parser.set.Goals as goal
use Rattle.wasm2text.proofs.parser.Parser.set.Goals.{in-Output, in-Indent+in-Ok, in-Color+in-Some, in-At+in-Some-read_offset, in-CodeOffset+in-Some-read_offset-2, in-Func+in-Some-named}

pub returns-in-None-read_offset : goal.returns-in-None-read_offset
returns-in-None-read_offset c = rw c.in-At.is (refl, λ argument is. c.in-None-read_offset.ensures is.0 is.1)

pub returns-in-None-read_offset-2 : goal.returns-in-None-read_offset-2
returns-in-None-read_offset-2 c = rw c.in-CodeOffset.is (refl, λ argument is. c.in-None-read_offset-2.ensures is.0 is.1)

pub returns-in-None-named : goal.returns-in-None-named
returns-in-None-named c = rw c.in-Func.is (refl, λ argument is. c.in-None-named.ensures is.0 is.1)

pub returns : goal.returns
returns c = elim c.match-setting.branch [
  | in-Output w ↦ rw (w.in-Output.is, w.self-is) (WrittenTo c.args.value.now, refl, (w.write_to.ensures, refl))
  | in-Indent+in-Ok w ↦
      let e = w.in-Ok.ensures.value in
      rw (w.in-Indent.is, w.self-is) (IndentedBy w.in-Ok.spaces, (w.in-Ok.spaces, (e.0.0.0, e.0.0.1, e.0.1), refl), (w.indent_by.ensures, refl))
  | in-Color+in-Some w ↦
      rw (w.in-Color.is, w.self-is) (Colored w.in-Some.choice, (w.in-Some.choice, sym w.in-Some.ensures, refl), (w.choose_color.ensures, refl))
  | in-At+in-Some-read_offset w ↦
      let offset = w.in-Some-read_offset.offset in
      rw (w.in-At.is, w.self-is) (Shows (Excerpt (Byte offset)), (offset, w.in-Some-read_offset.ensures, refl), (w.show_part.ensures, refl))
  | in-CodeOffset+in-Some-read_offset-2 w ↦
      let offset = w.in-Some-read_offset-2.offset in
      rw (w.in-CodeOffset.is, w.self-is) (
        Shows (Excerpt (CodeByte offset)),
        (offset, w.in-Some-read_offset-2.ensures, refl),
        (w.show_part-in-Some-read_offset-2.ensures, refl),
      )
  | in-Func+in-Some-named w ↦
      let function = function_view w.in-Some-named.function in
      rw (w.in-Func.is, w.self-is) (Shows (OneFunction function), (function, w.in-Some-named.ensures, refl), (w.show_part-in-Some-named.ensures, refl))
]
