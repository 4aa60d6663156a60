use Rattle.std.proofs.Common.{rules}
use Rattle.ix_base.specs.Namespaces.{xml_namespace, iso4217_namespace, link_namespace, xbrldi_namespace, xbrli_namespace, xlink_namespace, xsi_namespace}
use Rattle.instance_lines.specs.Prefixes.{fixed, xml}
use Rattle.instance_lines.proofs.prefix.known_start.Goals as goal

pub returns-in_default : goal.returns-in_default
unfolding fixed xml iso4217_namespace link_namespace xbrldi_namespace xbrli_namespace xlink_namespace xml_namespace xsi_namespace
returns-in_default c = search rules

pub returns-in-text : goal.returns-in-text
unfolding fixed xml iso4217_namespace link_namespace xbrldi_namespace xbrli_namespace xlink_namespace xml_namespace xsi_namespace
returns-in-text c = search rules

pub returns-in-text-2 : goal.returns-in-text-2
unfolding fixed xml iso4217_namespace link_namespace xbrldi_namespace xbrli_namespace xlink_namespace xml_namespace xsi_namespace
returns-in-text-2 c = search rules

pub returns-in-text-3 : goal.returns-in-text-3
unfolding fixed xml iso4217_namespace link_namespace xbrldi_namespace xbrli_namespace xlink_namespace xml_namespace xsi_namespace
returns-in-text-3 c = search rules

pub returns-in-text-4 : goal.returns-in-text-4
unfolding fixed xml iso4217_namespace link_namespace xbrldi_namespace xbrli_namespace xlink_namespace xml_namespace xsi_namespace
returns-in-text-4 c = search rules

pub returns-in-text-5 : goal.returns-in-text-5
unfolding fixed xml iso4217_namespace link_namespace xbrldi_namespace xbrli_namespace xlink_namespace xml_namespace xsi_namespace
returns-in-text-5 c = search rules

pub returns-in-text-6 : goal.returns-in-text-6
unfolding fixed xml iso4217_namespace link_namespace xbrldi_namespace xbrli_namespace xlink_namespace xml_namespace xsi_namespace
returns-in-text-6 c = search rules

pub returns-in-text-7 : goal.returns-in-text-7
unfolding fixed xml iso4217_namespace link_namespace xbrldi_namespace xbrli_namespace xlink_namespace xml_namespace xsi_namespace
returns-in-text-7 c = search rules
