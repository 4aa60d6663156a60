mod WrittenLaws
