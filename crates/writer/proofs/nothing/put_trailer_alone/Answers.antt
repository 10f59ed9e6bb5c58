-- `writer::nothing::put_trailer_alone` meets its contract: the trailer has 12 bytes.
use native.Mathlib.Omega.{arith}
use mathlib.Core.List.{[]}
use mathlib.Core.Path.{sym}
use Rattle.sheet.specs.Writing.{rows_bytes, sheet_of}
use Rattle.sheet.proofs.WrittenLaws.{sheet-length}
use Rattle.call_definitions.specs.Bytes.{written_version}
use Rattle.writer.proofs.TableLaws.{too_long, fits}
use Rattle.writer.proofs.nothing.put_trailer_alone.Goals as goal

pub returns-then-buffer-lt12 : goal.returns-then-buffer-lt12
returns-then-buffer-lt12 c = too_long (sheet_of written_version []) _ (omega (arith, sheet-length written_version [], c.if-buffer-lt12.true))

pub returns : goal.returns
unfolding rows_bytes sheet_of
returns c = fits (sheet_of written_version []) _ (omega (arith, sheet-length written_version [], c.if-buffer-lt12.false)) _ (sym (sheet-length written_version [])) _ c.put_trailer.ensures
