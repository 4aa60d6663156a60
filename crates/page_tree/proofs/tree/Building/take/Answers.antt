use Rattle.page_tree.proofs.tree.Building.take.Goals as goal

pub returns-in-Text : goal.returns-in-Text
returns-in-Text c = rw c.in-Text.is (c.take_text.ensures c.args.setting.now)

pub returns-in-Reference : goal.returns-in-Reference
returns-in-Reference c = rw c.in-Reference.is (c.take_reference.ensures c.args.setting.now)

pub returns-in-Cdata : goal.returns-in-Cdata
returns-in-Cdata c = rw c.in-Cdata.is (c.take_cdata.ensures c.args.setting.now)

pub returns-in-Declaration : goal.returns-in-Declaration
returns-in-Declaration c = rw c.in-Declaration.is (c.take_declaration.ensures.takes c.args.setting.now)

pub returns-in-Doctype : goal.returns-in-Doctype
returns-in-Doctype c = rw c.in-Doctype.is (c.take_doctype.ensures.takes c.args.setting.now)
