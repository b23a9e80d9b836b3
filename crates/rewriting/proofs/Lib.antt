mod SameItems
mod SameStatements
mod SameSharing
mod SameShared
mod Analyses
mod OneForm
mod PrintingAlike
mod Texts
