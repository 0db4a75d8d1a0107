mod BaseLaws
